-- The numbers that cross to C: 0, or a row of documents 01 and 02 as its letter's code, times 256, and its number; and the rows C1 to C4 of the calls
-- themselves. The other rows have their numbers with the calls that answer them.
use Rattle.std.specs.Prelude.{ℕ, ◌+◌, ◌-◌, Bool, cond, List, ◌++◌, eqb, length, replicate}
use Rattle.wire.specs.Rows.{Row, served, row_p}

-- no refusal
abbrev pub served_number : ℕ
served_number = 0

-- C1: a record or contents are not of their size, or contents have a row over the last one, or no row and a count of offers over the limit or 0
abbrev pub wrong_record : ℕ
wrong_record = 0x4301

-- C2: a list or a block of data that is read is not of its size
abbrev pub wrong_list : ℕ
wrong_list = 0x4302

-- C3: a buffer for what comes out is not of its size
abbrev pub wrong_output : ℕ
wrong_output = 0x4303

-- C4: a place that the list, the device or the bundle does not have
abbrev pub wrong_place : ℕ
wrong_place = 0x4304

-- the letters of the rows, above a row's number
abbrev pub letter_p : ℕ
letter_p = 0x5000

abbrev pub letter_s : ℕ
letter_s = 0x5300

abbrev pub letter_d : ℕ
letter_d = 0x4400

abbrev pub letter_b : ℕ
letter_b = 0x4200

abbrev pub letter_w : ℕ
letter_w = 0x5700

abbrev pub letter_n : ℕ
letter_n = 0x4E00

abbrev pub letter_h : ℕ
letter_h = 0x4800

-- how far a host is that no row ended
abbrev pub running_number : ℕ
running_number = 0

abbrev pub done_number : ℕ
done_number = 1

-- the kind of a packet on the offer channel, as C is told it
abbrev pub kind_none : ℕ
kind_none = 0

abbrev pub kind_offer : ℕ
kind_offer = 1

abbrev pub kind_information : ℕ
kind_information = 2

abbrev pub kind_extended : ℕ
kind_extended = 3

-- a letter and a number, or 0 where no row refuses
abbrev pub lettered_of : (letter number : ℕ) → ℕ
lettered_of letter number = cond (eqb number 0) served_number (letter + number)

-- a row of a packet
abbrev pub packet_number : Row → ℕ
packet_number served = served_number
packet_number (row_p k) = letter_p + k

-- an answer that stands only where a lent buffer has its size
abbrev pub sized : {A : Type 0} → (buffer : List ℕ) → (size : ℕ) → (wrong right : A) → A
sized buffer size wrong right = cond (eqb (length buffer) size) right wrong

-- the row that a call is refused by for its buffers: C1 where the record does not fit, then the row of another buffer that does not; 0 where both fit
abbrev pub lent_number : (fits other : Bool) → (row : ℕ) → ℕ
lent_number fits other row = cond fits (cond other served_number row) wrong_record

-- bytes, and zeros up to n
abbrev pub filled_to : (n : ℕ) → List ℕ → List ℕ
filled_to n bytes = bytes ++ replicate (n - length bytes) 0
