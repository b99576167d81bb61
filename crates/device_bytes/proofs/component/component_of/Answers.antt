-- `component::component_of` meets its contract: by whether there is one. Assumes nothing.
use mathlib.Core.Path.{ap, ◌∙◌}
use Prim.Native.Nat.{ℕ}
use lib.ListN.{drop}
use Rattle.wire.proofs.Chain.{by}
use Rattle.wire.proofs.Pieces.{rest}
use Rattle.device_component_bytes.specs.Layout.{component_in}
use Rattle.device_bytes.proofs.component.Laws.{start_within}
use Rattle.device_bytes.proofs.component.component_of.Goals as goal

pub slice_bounds-component_in-count : goal.slice_bounds-component_in-count
slice_bounds-component_in-count c = let a = c.args in start_within a.slot _ a.b.now c.component_start.ensures (by c.has_slot.ensures c.if-has_slot.true)

pub returns-then-has_slot : goal.returns-then-has_slot
returns-then-has_slot c =
    let s = c in
    let b = s.args.b.now in
    rw (by s.has_slot.ensures s.if-has_slot.true) (c.component_in.ensures ∙ ap component_in (rest _ b ∙ ap (λ (n : ℕ). drop n b) s.component_start.ensures))

pub returns-else-has_slot : goal.returns-else-has_slot
returns-else-has_slot c = rw (by c.has_slot.ensures c.if-has_slot.false) c.blank_component.ensures
