-- `device_bytes` meets its contract: what stands before the session, the session, and the components. Assumes nothing.
use mathlib.Core.Path.{◌≡◌, refl, sym, ap, ◌∙◌}
use mathlib.Core.List.{List, ◌++◌}
use Prim.Native.Nat.{ℕ}
use lib.ListN.{length, take, replicate}
use Rattle.wire.specs.Codes.{long_size}
use Rattle.device_bytes.specs.Layout.{session_start, components_start, device_size, components_bytes}
use Rattle.device_bytes.proofs.Record.{head_put, device_of_lem}
use borrow.Author.Rules.{rules}
use Rattle.device_bytes.proofs.device_bytes.Goals.{Start}
use Rattle.device_bytes.proofs.device_bytes.Goals as goal

-- the previous packet of the record has the size of one
previous_long : (c : Start) → length c.args.d.session.previous ≡ long_size
previous_long c = search rules

pub slice_bounds-store_session-end : goal.slice_bounds-store_session-end
slice_bounds-store_session-end c =
    let h = c.head-h in
    sym (head_put (replicate device_size 0) h.result _ c.args.d session_start refl refl h.ensures c.copy.ensures).0

pub returns : goal.returns
returns c =
    let h = c.head-h in
    let d = c.args.d in
    let p = head_put (replicate device_size 0) h.result _ d session_start refl refl h.ensures c.copy.ensures in
    c.with_components.ensures ∙ ap (λ (l : List ℕ). take components_start l ++ components_bytes d.components) c.store_session.ensures
    ∙ device_of_lem _ d (previous_long (goal.at.returns c).Start) p.0 p.1
