-- Examples of the writer, in literal bytes: an image of 8 bytes, the shortest, alone; the same beside one that has a run of 52 bytes 0xFF, which is left out; one
-- with a run of 51, which is not; one whose bytes after a run that is left out are cut anew; and some refusals.
use Rattle.std.specs.Prelude.{ℕ, ◌≡◌, List, [], ◌∷◌, ◌++◌, set, replicate}
use Rattle.bundle_writer.specs.Rows.{served, row_w}
use Rattle.bundle_writer.specs.Answer.{Made, make_of}

-- component 1 at 1.3.0: version, id, one byte, CRC
abbrev pub eight : List ℕ
eight = 0x00 ∷ 0x03 ∷ 0x00 ∷ 0x01 ∷ 1 ∷ 7 ∷ 0x9A ∷ 0x34 ∷ []

-- component 2 at 1.2.0: version, id, bytes 0xFF, three bytes, CRC
abbrev pub long : List ℕ
long = 0x00 ∷ 0x02 ∷ 0x00 ∷ 0x01 ∷ 2 ∷ replicate 52 0xFF ++ 0x11 ∷ 0x22 ∷ 0x33 ∷ 0x46 ∷ 0xC0 ∷ []

abbrev pub short : List ℕ
short = 0x00 ∷ 0x02 ∷ 0x00 ∷ 0x01 ∷ 2 ∷ replicate 51 0xFF ++ 0x11 ∷ 0x22 ∷ 0x33 ∷ 0x16 ∷ 0xB8 ∷ []

-- 20 bytes, a run of 52, 58 bytes, CRC
abbrev pub anew : List ℕ
anew = 0x00 ∷ 0x02 ∷ 0x00 ∷ 0x01 ∷ 2 ∷ replicate 15 0x44 ++ replicate 52 0xFF ++ replicate 58 0x55 ++ 0x1A ∷ 0xF6 ∷ []

-- their offers
abbrev pub offer_one : List ℕ
offer_one = 0 ∷ 0 ∷ 1 ∷ 0 ∷ 0x00 ∷ 0x03 ∷ 0x00 ∷ 0x01 ∷ 0 ∷ 0 ∷ 0 ∷ 0 ∷ 2 ∷ 0 ∷ 0x42 ∷ 0 ∷ []

abbrev pub offer_two : List ℕ
offer_two = 0 ∷ 0 ∷ 2 ∷ 0 ∷ 0x00 ∷ 0x02 ∷ 0x00 ∷ 0x01 ∷ 0 ∷ 0 ∷ 0 ∷ 0 ∷ 2 ∷ 0 ∷ 0x42 ∷ 0 ∷ []

-- an entry of a list: the offer, the offset of its image and its length, both below 256
abbrev pub given : (offer : List ℕ) → (offset size : ℕ) → List ℕ
given offer offset size = offer ++ (offset ∷ 0 ∷ 0 ∷ 0 ∷ size ∷ 0 ∷ 0 ∷ 0 ∷ [])

-- a record of a body, its address below 256
abbrev pub record8 : (address size : ℕ) → List ℕ → List ℕ
record8 address size bytes = address ∷ 0 ∷ 0 ∷ 0 ∷ size ∷ bytes

-- what a refusal leaves
abbrev pub refused_by : (number entry : ℕ) → (out : List ℕ) → Made
refused_by number entry out = record { row = row_w number entry; place = entry; length = 0; out = out }

pub record WriterBench : Type 0 where
  -- 50 bytes, in an output of 52
  pub one : make_of (given offer_one 0 8) eight (replicate 52 9)
      ≡ record {
        row = served;
        place = 0;
        length = 50;
        out = 1 ∷ 1 ∷ replicate 6 0 ++ (given offer_one 32 18 ++ (record8 0 6 (0x00 ∷ 0x03 ∷ 0x00 ∷ 0x01 ∷ 1 ∷ 7 ∷ []) ++ (record8 6 2 (0x9A ∷ 0x34 ∷ []) ++ (9 ∷ 9 ∷ []))));
      }
  -- the second image stands first among the images; its body is at 74, of 25 bytes: the run is left out, so its records stand at 0, 57 and 60
  pub two : make_of (given offer_one 62 8 ++ given offer_two 0 62) (long ++ eight) (replicate 99 9)
      ≡ record {
        row = served;
        place = 0;
        length = 99;
        out =
            2 ∷ 1 ∷ replicate 6 0 ++ (given offer_one 56 18 ++ (given offer_two 74 25 ++ (
            record8 0 6 (0x00 ∷ 0x03 ∷ 0x00 ∷ 0x01 ∷ 1 ∷ 7 ∷ []) ++ (record8 6 2 (0x9A ∷ 0x34 ∷ []) ++ (
            record8 0 5 (0x00 ∷ 0x02 ∷ 0x00 ∷ 0x01 ∷ 2 ∷ []) ++ (record8 57 3 (0x11 ∷ 0x22 ∷ 0x33 ∷ []) ++ record8 60 2 (0x46 ∷ 0xC0 ∷ [])))))));
      }
  -- a run of 51 stays: records at 0, 52 and 59
  pub kept : make_of (given offer_two 0 61) short (replicate 108 9)
      ≡ record {
        row = served;
        place = 0;
        length = 108;
        out =
            1 ∷ 1 ∷ replicate 6 0 ++ (given offer_two 32 76 ++ (
            record8 0 52 (0x00 ∷ 0x02 ∷ 0x00 ∷ 0x01 ∷ 2 ∷ replicate 47 0xFF) ++ (record8 52 7 (replicate 4 0xFF ++ 0x11 ∷ 0x22 ∷ 0x33 ∷ []) ++ record8 59 2 (0x16 ∷ 0xB8 ∷ []))));
      }
  -- the count starts anew after the run: records at 0 of 20 bytes, at 72 of 52, at 124 of 6, and the CRC at 130
  pub cut_anew : make_of (given offer_two 0 132) anew (replicate 132 9)
      ≡ record {
        row = served;
        place = 0;
        length = 132;
        out =
            1 ∷ 1 ∷ replicate 6 0 ++ (given offer_two 32 100 ++ (
            record8 0 20 (0x00 ∷ 0x02 ∷ 0x00 ∷ 0x01 ∷ 2 ∷ replicate 15 0x44) ++ (record8 72 52 (replicate 52 0x55) ++ (
            record8 124 6 (replicate 6 0x55) ++ record8 130 2 (0x1A ∷ 0xF6 ∷ [])))));
      }
  -- no entry; an offer with a token; the same id again; an image that ends past the images; a wrong CRC; another component's image; an image of another variant;
  -- an output of 49 bytes
  pub w1 : make_of [] eight (replicate 3 9) ≡ refused_by 1 0 (replicate 3 9)
  pub w2 : make_of (set (given offer_one 0 8) 3 1) eight (replicate 50 9) ≡ refused_by 2 1 (replicate 50 9)
  pub w3 : make_of (given offer_one 0 8 ++ given offer_one 0 8) eight (replicate 50 9) ≡ refused_by 3 2 (replicate 50 9)
  pub w4 : make_of (given offer_one 0 9) eight (replicate 50 9) ≡ refused_by 4 1 (replicate 50 9)
  pub w5 : make_of (given offer_one 0 8) (set eight 5 8) (replicate 50 9) ≡ refused_by 5 1 (replicate 50 9)
  pub w6_id : make_of (set (given offer_one 0 8) 2 2) eight (replicate 50 9) ≡ refused_by 6 1 (replicate 50 9)
  pub w6_version : make_of (set (given offer_one 0 8) 4 1) eight (replicate 50 9) ≡ refused_by 6 1 (replicate 50 9)
  pub w8 : make_of (given offer_one 0 8) eight (replicate 49 9) ≡ refused_by 8 0 (replicate 49 9)
