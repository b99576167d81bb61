-- The components of a version reply are bytes of the one length and read back, both ways. Assumes nothing.
use mathlib.Core.Path.{◌≡◌, refl, sym, ap, ap₂, ◌∙◌}
use mathlib.Core.List.{List, [], ◌∷◌, ◌++◌, append_assoc}
use Prim.Native.Nat.{ℕ, zero, suc, ◌+◌, ◌*◌, ◌≤◌}
use native.Mathlib.Omega.{arith}
use lib.ListN.{length, get_or, take, drop, replicate, length-drop, drop_of_length-le, take-append-drop, replicate-append-replicate}
use lib.Seq.{take_at, length-take-le}
use Rattle.wire.specs.Bytes.{Bytes, bytes_of, bytes_at}
use Rattle.wire.specs.Codes.{component_limit}
use Rattle.wire.specs.Version.{version_bytes}
use Rattle.wire.proofs.Bounds.{cons_bytes, join_bytes, no_bytes, word_bytes, version_bytes_lem, rest_bytes, word_fits, version_fits}
use Rattle.wire.proofs.Pieces.{pieces_sized, read_sized}
use Rattle.wire.proofs.version.Laws.{parts, version_back}
use Rattle.wire.proofs.words.Laws.{round, back, split}
use Rattle.wire_version.specs.Reply.{none, FitsEntry}
use Rattle.wire_version.specs.declared.Running.{Running}
use Rattle.c_version.specs.Layout.{id_offset, platform_at, running_size, running_bytes, components_bytes, running_in, components_in}
use Rattle.c_version.specs.Promises.{ComponentsSized, ComponentsReadBack, ComponentsWriteBack}

-- components are as many bytes as each has
components_length : (es : List Running) → length (components_bytes es) ≡ length es * running_size
unfolding components_bytes
components_length es = pieces_sized running_bytes components_bytes refl (λ e l. refl) running_size (λ e. refl) es

-- they are bytes
running_bytes_lem : (e : Running) → FitsEntry e → Bytes (running_bytes e)
running_bytes_lem e f =
    join_bytes (version_bytes e.version) (e.id ∷ bytes_of 2 e.platform) (version_bytes_lem e.version f.version)
    (cons_bytes e.id (bytes_of 2 e.platform) f.id (word_bytes 2 e.platform))

components_bytes_lem : (es : List Running) → ((i : ℕ) → FitsEntry (get_or es i none)) → Bytes (components_bytes es)
unfolding components_bytes
components_bytes_lem [] f = no_bytes
components_bytes_lem (e ∷ es) f = join_bytes (running_bytes e) (components_bytes es) (running_bytes_lem e (f 0)) (components_bytes_lem es (λ i. f (suc i)))

-- all components are bytes of the one length
pub components_sized : ComponentsSized
components_sized es size f = record { size = components_length es ∙ ap (λ (n : ℕ). n * running_size) size; bytes = components_bytes_lem es f }

-- components that were written read back
written_read : (es : List Running) → ((i : ℕ) → FitsEntry (get_or es i none)) → components_in (length es) (components_bytes es) ≡ es
unfolding components_bytes components_in
written_read [] f = refl
written_read (e ∷ es) f =
    ap₂ (λ (x : Running) (xs : List Running). x ∷ xs) (simp (parts e.version, round 2 e.platform (f 0).platform)) (written_read es (λ i. f (suc i)))

-- all components read back
pub components_read_back : ComponentsReadBack
components_read_back es size f = ap (λ (n : ℕ). components_in n (components_bytes es)) (sym size) ∙ written_read es f

-- the bytes of one that were read are written again
running_back : (q : List ℕ) → Bytes q → running_bytes (running_in q) ≡ bytes_at running_size 0 q
running_back q h = ap₂ (λ (v l : List ℕ). v ++ get_or q id_offset 0 ∷ l) (version_back 0 q h) (back 2 platform_at q h)

-- bytes of n components that were read are written again
read_written : (n : ℕ) (q : List ℕ) → length q ≡ n * running_size → Bytes q → components_bytes (components_in n q) ≡ q
unfolding components_bytes components_in
read_written zero q l h = let e : length q ≤ 0 = omega arith in sym (drop_of_length-le q e)
read_written (suc n) q l h =
    let m : length (drop running_size q) ≡ n * running_size = simp length-drop (omega arith) in
    ap₂ (λ (x y : List ℕ). x ++ y) (running_back q h) (read_written n (drop running_size q) m (rest_bytes running_size q h))
    ∙ sym (split running_size q (omega arith))

-- all bytes that were read are written again
pub components_write_back : ComponentsWriteBack
components_write_back q k = read_written component_limit q k.size k.bytes

-- there are as many as the limit
pub components_all : (q : List ℕ) → length (components_in component_limit q) ≡ component_limit
unfolding components_in
components_all q = read_sized running_size running_in components_in (λ q. refl) (λ n q. refl) component_limit q

-- what is read of bytes fits
pub components_fit : (n : ℕ) (q : List ℕ) → Bytes q → (i : ℕ) → FitsEntry (get_or (components_in n q) i none)
unfolding components_in
components_fit zero q h i = record { version = omega arith; id = omega arith; platform = omega arith }
components_fit (suc n) q h zero = record { version = version_fits 0 q h; id = h id_offset; platform = word_fits 2 platform_at q h }
components_fit (suc n) q h (suc i) = components_fit n (drop running_size q) (rest_bytes running_size q h) i

-- components after components
components_join : (a b : List Running) → components_bytes (a ++ b) ≡ components_bytes a ++ components_bytes b
unfolding components_bytes
components_join [] b = refl
components_join (e ∷ a) b = ap (λ (l : List ℕ). running_bytes e ++ l) (components_join a b) ∙ sym (append_assoc (running_bytes e) (components_bytes a) (components_bytes b))

-- empty components are zeros
none_zeros : (m : ℕ) → components_bytes (replicate m none) ≡ replicate (m * running_size) 0
unfolding components_bytes
none_zeros zero = refl
none_zeros (suc m) =
    let e : running_size + m * running_size ≡ suc m * running_size = omega arith in
    ap (λ (l : List ℕ). running_bytes none ++ l) (none_zeros m) ∙ replicate-append-replicate running_size (m * running_size) 0 ∙ ap (λ (k : ℕ). replicate k 0) e

-- the first n of components with m empty ones behind them are the first bytes with zeros behind them
pub components_first : (n m : ℕ) (es : List Running) → n ≤ length es
    → components_bytes (take n es ++ replicate m none) ≡ take (n * running_size) (components_bytes es) ++ replicate (m * running_size) 0
components_first n m es h =
    let l = components_length (take n es) ∙ ap (λ (k : ℕ). k * running_size) (length-take-le n es h) in
    let e = take_at (components_bytes (take n es)) (components_bytes (drop n es)) (n * running_size) l in
    components_join (take n es) (replicate m none)
    ∙ ap₂ (λ (x y : List ℕ). x ++ y) (sym e ∙ ap (take (n * running_size)) (sym (components_join (take n es) (drop n es)) ∙ ap components_bytes (take-append-drop n es))) (none_zeros m)
