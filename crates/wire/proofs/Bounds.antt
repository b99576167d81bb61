-- What is written is bytes, and what is read of bytes fits. Assumes nothing.
use mathlib.Core.List.{List, [], ◌∷◌, ◌++◌}
use Prim.Native.Nat.{ℕ, zero, suc, ◌+◌, ◌^◌, ◌<◌}
use native.Mathlib.Omega.{arith}
use lib.ListN.{get_or, take, drop}
use lib.Seq.{get_or-drop}
use Rattle.wire.specs.Bytes.{Bytes, number, bytes_of, bytes_at}
use Rattle.wire.specs.Version.{FitsVersion, version_at, version_bytes}
use Rattle.wire.specs.declared.version.Version.{Version}

-- a byte before bytes
pub cons_bytes : (x : ℕ) (l : List ℕ) → x < 256 → Bytes l → Bytes (x ∷ l)
cons_bytes x l h k zero = h
cons_bytes x l h k (suc i) = k i

-- bytes after bytes
pub join_bytes : (a b : List ℕ) → Bytes a → Bytes b → Bytes (a ++ b)
join_bytes [] b h k = k
join_bytes (x ∷ a) b h k = cons_bytes x (a ++ b) (h 0) (join_bytes a b (λ i. h (suc i)) k)

-- none
pub no_bytes : Bytes []
no_bytes i = omega arith

-- the bytes of a number
pub word_bytes : (k v : ℕ) → Bytes (bytes_of k v)
word_bytes zero v = no_bytes
word_bytes (suc k) v = cons_bytes _ (bytes_of k _) (omega arith) (word_bytes k _)

-- the bytes of a version
pub version_bytes_lem : (v : Version) → FitsVersion v → Bytes (version_bytes v)
version_bytes_lem v h zero = omega arith
version_bytes_lem v h (suc zero) = omega arith
version_bytes_lem v h (suc (suc zero)) = omega arith
version_bytes_lem v h (suc (suc (suc zero))) = omega arith
version_bytes_lem v h (suc (suc (suc (suc i)))) = omega arith

-- the first n bytes
pub first_bytes : (n : ℕ) (l : List ℕ) → Bytes l → Bytes (take n l)
first_bytes zero l h i = omega arith
first_bytes (suc n) [] h i = h i
first_bytes (suc n) (x ∷ l) h zero = h zero
first_bytes (suc n) (x ∷ l) h (suc i) = first_bytes n l (λ j. h (suc j)) i

-- what follows them
pub rest_bytes : (n : ℕ) (l : List ℕ) → Bytes l → Bytes (drop n l)
rest_bytes n l h i = rw get_or-drop (h (n + i))

-- a number that is read of k bytes
pub word_fits : (k i : ℕ) (p : List ℕ) → Bytes p → number (bytes_at k i p) < 256 ^ k
word_fits zero i p h = omega arith
word_fits (suc k) i p h =
    let l : get_or p i 0 < 256 = h i in
    let m = word_fits k (suc i) p h in omega arith

-- a version that is read
pub version_fits : (i : ℕ) (p : List ℕ) → Bytes p → FitsVersion (version_at i p)
version_fits i p h = omega (arith, h i, h (i + 1), h (i + 2), h (i + 3))
