-- Information and extended (document 01, "Packets"; CFU 5.3 and 5.4): their fields and their 16 bytes. Building them is never refused.
use Rattle.std.specs.Prelude.{ℕ, ◌<◌, List, ◌∷◌, get_or, replicate}
use Rattle.wire.specs.Codes.{kind_information, kind_extended}
use Rattle.wire_offer.specs.declared.signal.Signal.{Signal}

-- the values of the type
pub record FitsSignal (s : Signal) : Type 0 where
  pub code : s.code < 256
  pub token : s.token < 256

-- the 16 bytes, with the kind at byte 2
abbrev pub signal_bytes : ℕ → Signal → List ℕ
signal_bytes kind s = s.code ∷ 0 ∷ kind ∷ s.token ∷ replicate 12 0

abbrev pub information_bytes : Signal → List ℕ
information_bytes s = signal_bytes kind_information s

abbrev pub extended_bytes : Signal → List ℕ
extended_bytes s = signal_bytes kind_extended s

-- the fields of 16 bytes
abbrev pub signal_in : List ℕ → Signal
signal_in p = record { code = get_or p 0 0; token = get_or p 3 0 }

-- the packet with its reserved bytes zero: byte 1 and bytes 4-15
abbrev pub clean_signal : List ℕ → List ℕ
clean_signal p = get_or p 0 0 ∷ 0 ∷ get_or p 2 0 ∷ get_or p 3 0 ∷ replicate 12 0
