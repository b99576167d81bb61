-- What is written out of records is read back, and what is read is those records written out. Assumes nothing.
use mathlib.Core.Path.{◌≡◌, refl, sym, ap, ap₂, ◌∙◌}
use mathlib.Core.List.{List, [], ◌∷◌, ◌++◌}
use Prim.Native.Nat.{ℕ, zero, suc, ◌+◌, ◌-◌, ◌≤◌}
use native.Mathlib.Nat.{not-suc-le-zero}
use native.Mathlib.Omega.{arith}
use borrow.Author.Tests.{ne_eqb, le-ltb, le-leb}
use lib.ListN.{length, take, drop, length-append, length-drop, take-append-drop}
use lib.Seq.{take_at, drop_at, drop-drop, length-take-le}
use Rattle.wire.specs.Bytes.{Bytes, bytes_of, bytes_at}
use Rattle.wire.specs.Checks.{All}
use Rattle.wire.specs.declared.address.RegionAddress.{RegionAddress}
use Rattle.wire.proofs.Bounds.{first_bytes, rest_bytes}
use Rattle.wire.proofs.words.Laws.{round, back, split}
use Rattle.bundle_records.specs.declared.Head.{Head}
use Rattle.bundle_records.specs.declared.Head.TheVariants.{Empty, Cut, Whole}
use Rattle.bundle_records.specs.Record.{data_limit, Block, Sound, block_bytes, head_in, block_in, rest_of}
use Rattle.bundle_records.specs.Parse.{Parsed, whole, broken, more, after, parse, records_of, written, WrittenReads, ReadsWritten}
use Rattle.bundle_records.proofs.Heads.{Found, Seen, seen}
use Rattle.bundle_records.proofs.Parsing.{records_by, rest_short}

-- a record that is written in front of t is read in front of t

module _ (r : Block) (t : List ℕ) (s : Sound r) where
  block_head : head_in (block_bytes r ++ t) ≡ Whole r.address (length r.bytes)
  unfolding head_in
  block_head =
      let n = length r.bytes in
      let m = length (block_bytes r ++ t) in
      let l : n ≤ m - 5 = omega (arith, length-append r.bytes t) in
      simp (ne_eqb m 0 (λ z. omega arith), le-ltb m 5 (omega arith), le-leb 1 n s.some, le-leb n data_limit s.few, le-leb n (m - 5) l, round 4 r.address.0 s.address)

  block_rest : rest_of (length r.bytes) (block_bytes r ++ t) ≡ t
  block_rest = sym (drop-drop (length r.bytes) 5 (block_bytes r ++ t)) ∙ drop_at r.bytes t (length r.bytes) refl

  block_reads : records_of (block_bytes r ++ t) ≡ more r (records_of t)
  block_reads =
      records_by (block_bytes r ++ t) ∙ rw (block_head, block_rest, take_at r.bytes t (length r.bytes) refl)

pub written_reads : WrittenReads
unfolding written parse
written_reads [] a = refl
written_reads (r ∷ rs) a = block_reads r (written rs) a.0 ∙ ap (more r) (written_reads rs a.1)

-- a whole record at the start of a body can be written, and with what follows it makes the body

module _ (body : List ℕ) (a : RegionAddress) (n : ℕ) (h : Bytes body) (f : Found body a n) where
  data_length : length (take n (drop 5 body)) ≡ n
  data_length = let l = f.fits in length-take-le n (drop 5 body) (simp length-drop (omega arith))

  block_sound : Sound (block_in a n body)
  block_sound = record {
    address = let e = ap (λ (b : RegionAddress). b.0) f.placed in omega (arith, h 0, h 1, h 2, h 3);
    some = rw data_length f.some;
    few = rw data_length f.few;
    bytes = first_bytes n (drop 5 body) (rest_bytes 5 body h);
  }

  block_back : block_bytes (block_in a n body) ++ rest_of n body ≡ body
  block_back =
      let l = f.fits in
      let d = take n (drop 5 body) in
      let q : d ++ drop (5 + n) body ≡ drop 5 body = ap (λ (t : List ℕ). d ++ t) (sym (drop-drop n 5 body)) ∙ take-append-drop n (drop 5 body) in
      ap₂ (λ (x : List ℕ) (k : ℕ). x ++ k ∷ (d ++ drop (5 + n) body)) (ap (λ (b : RegionAddress). bytes_of 4 b.0) (sym f.placed) ∙ back 4 0 body h) (data_length ∙ sym f.sized)
      ∙ ap (λ (t : List ℕ). bytes_at 5 0 body ++ t) q ∙ sym (split 5 body (omega arith))

-- a body is the records that it reads as
abbrev Exact : List ℕ → List Block → Type 0
Exact body rs = All Sound rs × (written rs ≡ body)

exact_more : (r : Block) (q : Parsed) (rs : List Block) (body rest : List ℕ) → Sound r → block_bytes r ++ rest ≡ body → ((ts : List Block) → q ≡ whole ts → Exact rest ts)
    → more r q ≡ whole rs → Exact body rs
unfolding written
exact_more r (whole ts) rs body rest s b ih e =
    let p : rs ≡ r ∷ ts = cc in
    let t = ih ts refl in rw p ((s, t.0), ap (λ (u : List ℕ). block_bytes r ++ u) t.1 ∙ b)
exact_more r broken rs body rest s b ih e = let z : ◌≡◌ {A = ℕ} 0 1 = cc in absurd (omega arith)

exact_step : (f : ℕ) (body : List ℕ) (rs : List Block) → Bytes body → ((n : ℕ) (ts : List Block) → parse f (rest_of n body) ≡ whole ts → Exact (rest_of n body) ts)
    → (d : Head) → Seen body d → after (parse f) body d ≡ whole rs → Exact body rs
unfolding written
exact_step f body rs h ih Empty s p = let q : rs ≡ [] = cc in rw q (tt, sym s)
exact_step f body rs h ih Cut s p = let z : ◌≡◌ {A = ℕ} 0 1 = cc in absurd (omega arith)
exact_step f body rs h ih (Whole a n) s p =
    exact_more (block_in a n body) (parse f (rest_of n body)) rs body (rest_of n body) (block_sound body a n h s) (block_back body a n h s) (ih n) p

exact : (f : ℕ) (body : List ℕ) (rs : List Block) → Bytes body → length body ≤ f → parse f body ≡ whole rs → Exact body rs
unfolding parse written
exact zero [] rs h l p = let q : rs ≡ [] = cc in rw q (tt, refl)
exact zero (x ∷ body) rs h l p = absurd (not-suc-le-zero l)
exact (suc f) body rs h l p =
    exact_step f body rs h (λ n ts q. exact f (rest_of n body) ts (rest_bytes (5 + n) body h) (rest_short body n f l) q) (head_in body) (seen body) p

pub reads_written : ReadsWritten
reads_written body rs h p = exact (length body) body rs h (omega arith) p
