-- The records of a body, one after the other: as much fuel as bytes is enough. Assumes nothing.
use mathlib.Core.Path.{◌≡◌, refl, ap, ◌∙◌}
use mathlib.Core.List.{List, [], ◌∷◌}
use Prim.Native.Nat.{ℕ, zero, suc, ◌+◌, ◌≤◌}
use native.Mathlib.Nat.{not-suc-le-zero}
use native.Mathlib.Omega.{arith}
use lib.ListN.{length, length-drop}
use Rattle.bundle_records.specs.declared.Head.{Head}
use Rattle.bundle_records.specs.declared.Head.TheVariants.{Empty, Cut, Whole}
use Rattle.bundle_records.specs.Record.{Block, head_in, block_in, rest_of}
use Rattle.bundle_records.specs.Parse.{Parsed, whole, broken, more, after, parse, records_of, blocks_of}
use Rattle.bundle_records.proofs.Heads.{Seen, seen}

-- what follows a record is shorter
pub rest_short : (body : List ℕ) (size fuel : ℕ) → length body ≤ suc fuel → length (rest_of size body) ≤ fuel
rest_short body size fuel h = simp length-drop (omega arith)

-- two ways to go on that agree on each rest
after_same : (f g : List ℕ → Parsed) (body : List ℕ) → ((n : ℕ) → f (rest_of n body) ≡ g (rest_of n body)) → (d : Head) → after f body d ≡ after g body d
after_same f g body h Empty = refl
after_same f g body h Cut = refl
after_same f g body h (Whole a n) = ap (more (block_in a n body)) (h n)

-- more fuel than bytes changes nothing
enough : (f g : ℕ) (body : List ℕ) → length body ≤ f → length body ≤ g → parse f body ≡ parse g body
unfolding parse head_in
enough zero zero body h k = refl
enough zero (suc g) [] h k = refl
enough zero (suc g) (x ∷ body) h k = absurd (not-suc-le-zero h)
enough (suc f) zero [] h k = refl
enough (suc f) zero (x ∷ body) h k = absurd (not-suc-le-zero k)
enough (suc f) (suc g) body h k =
    after_same (parse f) (parse g) body (λ n. enough f g (rest_of n body) (rest_short body n f h) (rest_short body n g k)) (head_in body)

-- the records of a body, by what stands at its start
pub records_by : (body : List ℕ) → records_of body ≡ after records_of body (head_in body)
unfolding parse
records_by body =
    let m = length body in
    enough m (suc m) body (omega arith) (omega arith)
    ∙ after_same (parse m) records_of body (λ n. enough m (length (rest_of n body)) (rest_of n body) (rest_short body n m (omega arith)) (omega arith)) (head_in body)

-- a body has no more records than bytes
few_more : (r : Block) (p : Parsed) → length (blocks_of (more r p)) ≤ suc (length (blocks_of p))
few_more r (whole rs) = omega arith
few_more r broken = omega arith

few_after : (f : List ℕ → Parsed) (body : List ℕ) → ((n : ℕ) → length (blocks_of (f (rest_of n body))) ≤ length (rest_of n body)) → (d : Head) → Seen body d
    → length (blocks_of (after f body d)) ≤ length body
few_after f body h Empty s = omega arith
few_after f body h Cut s = omega arith
few_after f body h (Whole a n) s =
    let l = s.fits in
    let m = few_more (block_in a n body) (f (rest_of n body)) in
    let k = h n in
    let e = length-drop (5 + n) body in omega arith

few : (f : ℕ) (body : List ℕ) → length (blocks_of (parse f body)) ≤ length body
unfolding parse
few zero body = omega arith
few (suc f) body = few_after (parse f) body (λ n. few f (rest_of n body)) (head_in body) (seen body)

pub few_records : (body : List ℕ) → length (blocks_of (records_of body)) ≤ length body
few_records body = few (length body) body
