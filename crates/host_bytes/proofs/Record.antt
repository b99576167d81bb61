-- The host's record as bytes: every record is bytes of the one length and reads back; bytes of another length, or with a flag that no record has, are read as
-- a record that N1 refuses. Assumes nothing.
use mathlib.Core.Path.{◌≡◌, refl, sym, ap, ◌∙◌}
use mathlib.Core.Bool.{Bool, true, false, ◌||◌, ◌&&◌}
use mathlib.Core.List.{List, [], ◌∷◌, ◌++◌}
use Prim.Native.Nat.{ℕ, ◌-◌, ◌%◌, ◌^◌, ◌<◌}
use native.Mathlib.Omega.{arith}
use lib.Dec.{eqb, leb, ltb}
use lib.ListN.{length, get_or, set, replicate}
use Rattle.wire.specs.Bytes.{Bytes, number, bytes_of, bytes_at}
use Rattle.wire.proofs.Bounds.{cons_bytes, join_bytes, no_bytes, word_bytes}
use Rattle.wire.proofs.words.Laws.{round}
use Rattle.bundle_layout.specs.Layout.{count_in}
use Rattle.host_record.specs.Record.{FitsHostStage, FitsHost, ending_of, number_of, status_of}
use Rattle.host.specs.Step.{breaks_n1}
use Rattle.host_record.specs.declared.record.Host.{Host}
use Rattle.host_record.specs.declared.record.HostStage.{HostStage}
use Rattle.host_record.specs.declared.record.HostStage.TheVariants.{Fresh, Opening, Listing, Offering, Waiting, Sending, Closing, Ended}
use Rattle.host_record.specs.declared.record.End.{End}
use Rattle.host_record.specs.declared.record.End.TheVariants as end
use Rattle.host_bytes.specs.declared.stage.StageWords.{StageWords}
use Rattle.host_bytes.specs.Layout.{words_bytes, token_at, stage_start, first_at, second_at, mask_at, packets_at, passes_at, skipped_at, landed_at, passed_offset, host_size, end_words, stage_words, stage_bytes, flag_byte, passed_in, host_bytes, stage_in, host_in, are_flags, flags_fit, refused_host, read_host}
use Rattle.host_bytes.specs.Promises.{HostSized, HostReadsBack, OthersBreakN1}
use Rattle.host_bytes.proofs.Words.{laid}

-- a record: token and stage, the words, the three flags
pub record_of : (h : Host) (w : StageWords) (a : List ℕ) (x y z : ℕ) (t : Bool) → w ≡ stage_words h.stage
    → a ≡ laid first_at (w.first ∷ w.second ∷ h.mask ∷ h.packets ∷ h.passes ∷ []) (h.token ∷ w.number ∷ replicate (host_size - first_at) 0)
    → x ≡ flag_byte h.skipped → y ≡ flag_byte h.landed → t ≡ passed_in h.stage → z ≡ flag_byte t
    → set (set (set a skipped_at x) landed_at y) passed_offset z ≡ host_bytes h
unfolding host_bytes words_bytes
record_of h w a x y z t e f g i j k = rw (k, j, i, g, f, e)

-- the parts of a record are bytes
words_bytes_lem : (n a b : ℕ) → n < 256 → Bytes (n ∷ bytes_of 4 a ++ bytes_of 4 b)
words_bytes_lem n a b h = cons_bytes n (bytes_of 4 a ++ bytes_of 4 b) h (join_bytes (bytes_of 4 a) (bytes_of 4 b) (word_bytes 4 a) (word_bytes 4 b))

end_number : (e : End) → (end_words e).number < 256
end_number end.Done = omega arith
end_number (end.Status s) = omega arith
end_number end.Foreign = omega arith
end_number end.Unexpected = omega arith
end_number end.Busy = omega arith

stage_number : (s : HostStage) → (stage_words s).number < 256
stage_number Fresh = omega arith
stage_number Opening = omega arith
stage_number Listing = omega arith
stage_number (Offering t) = omega arith
stage_number (Waiting t) = omega arith
stage_number (Sending a) = omega arith
stage_number Closing = omega arith
stage_number (Ended e) = end_number e

flag_byte_lem : (x : Bool) → flag_byte x < 256
flag_byte_lem false = omega arith
flag_byte_lem true = omega arith

-- the words of an end: its number and its status
pub end_words_lem : (e : End) → record { number = 7; first = number_of (ending_of e); second = status_of (ending_of e) } ≡ end_words e
end_words_lem end.Done = refl
end_words_lem (end.Status s) = refl
end_words_lem end.Foreign = refl
end_words_lem end.Unexpected = refl
end_words_lem end.Busy = refl

-- every record is bytes of the one length
pub host_sized : HostSized
unfolding host_bytes
host_sized h f = record {
  size = refl;
  bytes =
      let z = flag_byte (passed_in h.stage) ∷ [] in
      let y = flag_byte h.landed ∷ z in
      let x = flag_byte h.skipped ∷ y in
      let n = bytes_of 4 h.passes ++ x in
      let p = bytes_of 4 h.packets ++ n in
      let m = bytes_of 4 h.mask ++ p in
      cons_bytes h.token (stage_bytes h.stage ++ m) f.token
      (join_bytes (stage_bytes h.stage) m (words_bytes_lem (stage_words h.stage).number (stage_words h.stage).first (stage_words h.stage).second (stage_number h.stage))
      (join_bytes (bytes_of 4 h.mask) p (word_bytes 4 h.mask)
      (join_bytes (bytes_of 4 h.packets) n (word_bytes 4 h.packets)
      (join_bytes (bytes_of 4 h.passes) x (word_bytes 4 h.passes)
      (cons_bytes (flag_byte h.skipped) y (flag_byte_lem h.skipped)
      (cons_bytes (flag_byte h.landed) z (flag_byte_lem h.landed)
      (cons_bytes (flag_byte (passed_in h.stage)) [] (flag_byte_lem (passed_in h.stage)) no_bytes)))))));
}

-- a flag reads back
flag_back : (x : Bool) → eqb (flag_byte x) 1 ≡ x
flag_back false = refl
flag_back true = refl

flag_small : (x : Bool) → leb (flag_byte x) 1 ≡ true
flag_small false = refl
flag_small true = refl

-- a stage reads back from the bytes of its words and its flag
stage_back : (s : HostStage) → FitsHostStage s → stage_in (stage_words s).number (number (bytes_of 4 (stage_words s).first)) (number (bytes_of 4 (stage_words s).second)) (passed_in s) ≡ s
stage_back Fresh f = refl
stage_back Opening f = refl
stage_back Listing f = refl
stage_back (Offering t) f = simp (round 4 t.entry f.0, round 4 t.busy f.1)
stage_back (Waiting t) f = simp (round 4 t.entry f.0, round 4 t.busy f.1)
stage_back (Sending a) f = simp (round 4 a.place.entry f.0, round 4 a.place.block f.1)
stage_back Closing f = refl
stage_back (Ended end.Done) f = refl
stage_back (Ended (end.Status s)) f =
    let e : s % 256 ≡ s = omega arith in
    let g : s < 256 ^ 4 = omega arith in ap (λ (n : ℕ). Ended (end.Status (n % 256))) (round 4 s g) ∙ ap (λ (n : ℕ). Ended (end.Status n)) e
stage_back (Ended end.Foreign) f = refl
stage_back (Ended end.Unexpected) f = refl
stage_back (Ended end.Busy) f = refl

host_back : (h : Host) → FitsHost h → host_in (host_bytes h) ≡ h
unfolding host_bytes host_in
host_back h f =
    simp (flag_back, stage_back h.stage f.stage, round 4 h.mask f.mask, round 4 h.packets f.packets, round 4 h.passes f.passes)

-- the flags of a record fit
flags_of : (s : HostStage) (x y z : Bool) → are_flags (stage_words s).number (number (bytes_of 4 (stage_words s).first)) (flag_byte x) (flag_byte y) (flag_byte z) ≡ true
flags_of Fresh x y z = simp flag_small
flags_of Opening x y z = simp flag_small
flags_of Listing x y z = simp flag_small
flags_of (Offering t) x y z = simp flag_small
flags_of (Waiting t) x y z = simp flag_small
flags_of (Sending a) x y z = simp flag_small
flags_of Closing x y z = simp flag_small
flags_of (Ended end.Done) x y z = simp flag_small
flags_of (Ended (end.Status s)) x y z = simp flag_small
flags_of (Ended end.Foreign) x y z = simp flag_small
flags_of (Ended end.Unexpected) x y z = simp flag_small
flags_of (Ended end.Busy) x y z = simp flag_small

flags_fit_lem : (h : Host) → (eqb (length (host_bytes h)) host_size && flags_fit (host_bytes h)) ≡ true
unfolding host_bytes flags_fit
flags_fit_lem h = flags_of h.stage h.skipped h.landed (passed_in h.stage)

-- every record reads back
pub host_reads_back : HostReadsBack
unfolding read_host
host_reads_back h f = rw (flags_fit_lem h, host_back h f)

-- one part of a disjunction is enough
third : (x z : Bool) → (x || (true || z)) ≡ true
third true z = refl
third false z = refl

-- the refused record breaks N1 over every bundle: it counts too many packets
refused_breaks : (bundle : List ℕ) → breaks_n1 bundle refused_host ≡ true
unfolding breaks_n1
refused_breaks bundle = third (ltb (count_in bundle) 0) (leb (2 ^ count_in bundle) 0)

-- bytes of another length, or with a flag that no record has, are read as the refused record
pub others_break_n1 : OthersBreakN1
unfolding read_host
others_break_n1 b bundle e = rw e (refused_breaks bundle)

-- the flags that were read
pub flags_read : (b : List ℕ) (s e x y z : ℕ) (t f : Bool) → s ≡ get_or b stage_start 0 → e ≡ number (bytes_at 4 first_at b) → x ≡ get_or b skipped_at 0 → y ≡ get_or b landed_at 0
    → z ≡ get_or b passed_offset 0 → f ≡ are_flags s e x y z → (eqb (length b) host_size && f) ≡ t → (eqb (length b) host_size && flags_fit b) ≡ t
unfolding flags_fit
flags_read b s e x y z t f h i j k l g w = ap (λ (u : Bool). eqb (length b) host_size && u) (sym (g ∙ rw (h, i, j, k, l))) ∙ w

-- the fields that were read
pub fields_read : (b : List ℕ) (token mask packets passes number' first second x y z : ℕ) (stage : HostStage) → token ≡ get_or b token_at 0
    → stage ≡ stage_in number' first second (eqb z 1)
    → number' ≡ get_or b stage_start 0 → first ≡ number (bytes_at 4 first_at b) → second ≡ number (bytes_at 4 second_at b) → mask ≡ number (bytes_at 4 mask_at b)
    → packets ≡ number (bytes_at 4 packets_at b) → passes ≡ number (bytes_at 4 passes_at b) → x ≡ get_or b skipped_at 0 → y ≡ get_or b landed_at 0
    → z ≡ get_or b passed_offset 0 → record { token = token; stage = stage; mask = mask; packets = packets; passes = passes; skipped = eqb x 1; landed = eqb y 1 } ≡ host_in b
unfolding host_in
fields_read b token mask packets passes number' first second x y z stage e f g h i j k l m n o = rw (e, f, g, h, i, j, k, l, m, n, o)

-- the fields where the length and the flags are a record's, and otherwise the refused record
pub read_fits : (b : List ℕ) (h : Host) → (eqb (length b) host_size && flags_fit b) ≡ true → h ≡ host_in b → h ≡ read_host b
unfolding read_host
read_fits b h t e = rw t e

pub read_refused : (b : List ℕ) (h : Host) → (eqb (length b) host_size && flags_fit b) ≡ false → h ≡ refused_host → h ≡ read_host b
unfolding read_host
read_refused b h t e = rw t e
