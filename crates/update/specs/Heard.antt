-- What a step of the host makes of the list of packets sent (document 01, "The host": the report; document 02, A4): a packet stands in it with the reply that
-- the host took for it, and a reply that is passed over is no packet's.
use Rattle.std.specs.Prelude.{ℕ, Bool, not, cond, ◌&&◌, List, [], ◌∷◌, ◌++◌, eqb, length}
use Rattle.host_record.specs.Record.{has_ended}
use Rattle.host_packet.specs.Answer.{Step}
use Rattle.update.specs.Trace.{Exchange}

-- the step passes over the reply that it was handed: it sends nothing, and the host has not ended; a refused step would look the same, but over an accepted
-- bundle N1 is never met (`HostEnds`)
abbrev pub passes_over : Step → Bool
passes_over x = eqb (length x.sent) 0 && not (has_ended x.host.stage)

-- the packet whose reply is awaited, if any, with the reply that is taken for it
abbrev pub taken_for : (awaited : List (List ℕ)) → (reply : List ℕ) → List Exchange
taken_for [] reply = []
taken_for (p ∷ ps) reply = record { packet = p; reply = reply } ∷ []

-- the list after a step that was handed this reply
abbrev pub trace_after : Step → (reply : List ℕ) → (awaited : List (List ℕ)) → List Exchange → List Exchange
trace_after x reply awaited trace = cond (passes_over x) trace (trace ++ taken_for awaited reply)

-- the packet whose reply is awaited after it
abbrev pub awaited_after : Step → (awaited : List (List ℕ)) → List (List ℕ)
awaited_after x awaited = cond (passes_over x) awaited x.sent

-- the reply that was taken last, and no bytes where none was
abbrev pub last_taken : List Exchange → List ℕ
last_taken [] = []
last_taken (x ∷ []) = x.reply
last_taken (x ∷ y ∷ xs) = last_taken (y ∷ xs)
