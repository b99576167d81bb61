-- The components as they are written and read, one after the other. Assumes nothing.
use mathlib.Core.Path.{◌≡◌, refl, sym, ap, ◌∙◌}
use mathlib.Core.List.{List, [], ◌++◌}
use Prim.Native.Nat.{ℕ, ◌+◌, ◌*◌, ◌<◌}
use native.Mathlib.Omega.{arith}
use lib.ListN.{length, get_or, take, drop}
use lib.Seq.{take_all}
use Rattle.std.proofs.lemmas.List.{same_lists, get_or_default}
use Rattle.wire.specs.Codes.{component_limit}
use Rattle.wire.proofs.Pieces.{piece_written, read_sized, read_at}
use Rattle.wire_version.specs.Reply.{none}
use Rattle.wire_version.specs.declared.Running.{Running}
use Rattle.c_version.specs.Layout.{running_size, components_size, running_bytes, components_bytes, running_in, components_in}

-- one component more is written
pub component_written : (out s last : List ℕ) (l : List Running) (i k : ℕ) → i < component_limit → length l ≡ component_limit → length out ≡ components_size → k ≡ running_size
    → s ≡ running_bytes (get_or l i none) → last ≡ s → take (i * running_size) out ≡ components_bytes (take i l)
    → (length (take (i * running_size) out ++ (last ++ drop k (drop (i * running_size) out))) ≡ components_size)
    × (take ((i + 1) * running_size) (take (i * running_size) out ++ (last ++ drop k (drop (i * running_size) out))) ≡ components_bytes (take (i + 1) l))
unfolding components_bytes
component_written out s last l i k h size whole e f g before =
    let w = piece_written running_bytes components_bytes refl (λ x m. refl) out [] s last l none i (i * running_size) running_size ((i + 1) * running_size) k
    (omega arith) e (omega arith) (ap length f) (omega arith) f g before in
    (w.0 ∙ whole, w.1)

-- all of them are written
pub written : (out : List ℕ) (l : List Running) (i : ℕ) → i ≡ component_limit → length l ≡ component_limit → length out ≡ components_size
    → take (i * running_size) out ≡ components_bytes (take i l) → out ≡ components_bytes l
written out l i e size whole h =
    sym (take_all (i * running_size) out (omega arith)) ∙ h ∙ ap components_bytes (take_all i l (omega arith))

-- all of them are read, each from its place
pub components_read : (q : List ℕ) (l : List Running) → length l ≡ component_limit
    → ((k : ℕ) → k < component_limit → get_or l k none ≡ running_in (drop (k * running_size) q)) → l ≡ components_in component_limit q
unfolding components_in
components_read q l h at =
    let m : length (components_in component_limit q) ≡ component_limit = read_sized running_size running_in components_in (λ q. refl) (λ n q. refl) component_limit q in
    same_lists l (components_in component_limit q) (h ∙ sym m) (λ k d b.
    let b' : k < component_limit = omega (arith, h) in
    get_or_default l k d none b ∙ at k b' ∙ sym (read_at running_size running_in components_in (λ q. refl) (λ n q. refl) component_limit k q d b'))
