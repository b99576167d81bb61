-- The numbers of a step's rows, B and N, and of how far a host is, as they cross to C.
use Rattle.std.specs.Prelude.{ℕ, ◌+◌}
use Rattle.host_packet.specs.Answer as host
use Rattle.host_record.specs.Record.{Ending, running, done, row_h1, row_h2, row_h3, row_h4, number_of}
use Rattle.c_types.specs.Numbers.{served_number, letter_b, letter_n, letter_h, running_number, done_number}

abbrev pub step_number : host.Row → ℕ
step_number host.served = served_number
step_number (host.row_b k entry) = letter_b + k
step_number (host.row_n k) = letter_n + k

-- the number of an end
abbrev pub ended_number : Ending → ℕ
ended_number e = letter_h + number_of e

-- how far a host is: running, done, or the number of the end
abbrev pub ending_number : Ending → ℕ
ending_number running = running_number
ending_number done = done_number
ending_number (row_h1 status) = ended_number (row_h1 status)
ending_number row_h2 = ended_number row_h2
ending_number row_h3 = ended_number row_h3
ending_number row_h4 = ended_number row_h4
