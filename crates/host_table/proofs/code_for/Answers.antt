-- `code_for`: the column is in range for every status, and the codes of the code's table are the definition's. Assumes nothing.
use mathlib.Core.Path.{◌≡◌, sym, ap, ◌∙◌}
use mathlib.Core.List.{List, [], map}
use Prim.Native.Nat.{ℕ}
use lib.ListN.{get_or, get_or-map, get_or-eq_default}
use Rattle.std.specs.Prelude.{None}
use Rattle.host_table.specs.Table.{table, class_of, code_of}
use Rattle.host_table.specs.declared.TheConstants.{TABLE}
use Rattle.host_table.proofs.code_for.Goals as goal

-- a cell of a table, read by f, is the cell of the table that is read by f
read : {A : Type 0} (f : A → ℕ) (t : List (List A)) (r c : ℕ) (d : A) → f (get_or (get_or t r []) c d) ≡ get_or (get_or (map (map f) t) r []) c (f d)
read f t r c d = sym (get_or-map f (get_or t r []) c d) ∙ ap (λ (l : List ℕ). get_or l c (f d)) (sym (get_or-map (map f) t r []))

pub returns-then-row-lt5 : goal.returns-then-row-lt5
unfolding table
returns-then-row-lt5 c = rw c.class.ensures (read code_of TABLE c.args.row (class_of c.args.status) None)

pub returns-else-row-lt5 : goal.returns-else-row-lt5
unfolding table
returns-else-row-lt5 c = rw (get_or-eq_default table [] c.if-row-lt5.false)
