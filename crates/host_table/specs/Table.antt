-- The host's next step, a table of rows by stage and reply (document 01, "The host").
use Rattle.std.specs.Prelude.{ℕ, Option, Some, None, cond, List, [], ◌∷◌, ltb, get_or}
use Rattle.host_table.specs.declared.Step.{Step}
use Rattle.host_table.specs.declared.Step.TheVariants as step
use Rattle.host_table.specs.declared.Row.{Row}
use Rattle.host_table.specs.declared.Row.TheVariants as row

-- the step codes of the table; the cells with no step end with H3
abbrev pub step_none : ℕ
step_none = 0

abbrev pub step_list : ℕ
step_list = 1

abbrev pub step_offer : ℕ
step_offer = 2

abbrev pub step_send : ℕ
step_send = 3

abbrev pub step_next_offer : ℕ
step_next_offer = 4

abbrev pub step_wait : ℕ
step_wait = 5

abbrev pub step_same : ℕ
step_same = 6

abbrev pub step_decide : ℕ
step_decide = 7

-- the rows of the table, by stage
abbrev pub opening_row : ℕ
opening_row = 0

abbrev pub listing_row : ℕ
listing_row = 1

abbrev pub offering_row : ℕ
offering_row = 2

abbrev pub waiting_row : ℕ
waiting_row = 3

abbrev pub closing_row : ℕ
closing_row = 4

-- rows: opening, listing, offering, waiting, closing; columns: SKIP, ACCEPT, REJECT, BUSY, READY, any other status
unfoldable pub table : List (List ℕ)
table =
    (step_none ∷ step_list ∷ step_none ∷ step_none ∷ step_none ∷ step_none ∷ [])
    ∷ (step_none ∷ step_offer ∷ step_none ∷ step_none ∷ step_none ∷ step_none ∷ [])
    ∷ (step_next_offer ∷ step_send ∷ step_next_offer ∷ step_wait ∷ step_none ∷ step_none ∷ [])
    ∷ (step_none ∷ step_none ∷ step_none ∷ step_none ∷ step_same ∷ step_none ∷ [])
    ∷ (step_none ∷ step_decide ∷ step_none ∷ step_none ∷ step_none ∷ step_none ∷ [])
    ∷ []

-- the column of a status
abbrev pub class_of : ℕ → ℕ
class_of status = cond (ltb status 5) status 5

-- the step code of a row for a status
abbrev pub cell : (row status : ℕ) → ℕ
cell row status = get_or (get_or table row []) (class_of status) 0

-- the code of a step, and of none
abbrev pub code_of : Option Step → ℕ
code_of None = step_none
code_of (Some step.List) = step_list
code_of (Some step.Offer) = step_offer
code_of (Some step.Send) = step_send
code_of (Some step.NextOffer) = step_next_offer
code_of (Some step.Wait) = step_wait
code_of (Some step.Same) = step_same
code_of (Some step.Decide) = step_decide

-- the number of a row
abbrev pub number_of : Row → ℕ
number_of row.Opening = opening_row
number_of row.Listing = listing_row
number_of row.Offering = offering_row
number_of row.Waiting = waiting_row
number_of row.Closing = closing_row
