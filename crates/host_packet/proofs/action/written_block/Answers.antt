-- `action::written_block` meets its contract: what stands at the record's start. Assumes nothing.
use mathlib.Core.Path.{◌≡◌, sym, ap, subst, ◌∙◌}
use mathlib.Core.Logic.{inl, inr}
use mathlib.Core.Bool.{Bool}
use Prim.Native.Nat.{ℕ}
use native.Mathlib.Omega.{arith}
use lib.ListN.{take, drop, length-take}
use Rattle.bundle_records.specs.Record.{Block}
use Rattle.bundle_records.specs.Walk.{next_of}
use Rattle.bundle_records.proofs.Walks.{Stands, Says, says}
use Rattle.host_record.specs.Fits.{is_last_of}
use Rattle.host_packet.specs.Packet.{block_bytes}
use Rattle.host_packet.specs.Made.{record_start}
use Rattle.host_packet.proofs.action.Laws.{content_laid, block_length}
use Rattle.host_packet.proofs.action.written_block.Goals.{After-is_last-last, After-next_record, In-End, In-Record}
use Rattle.host_packet.proofs.action.written_block.Goals as goal

-- what stands at the start of the block's record is what is read
next_is : (c : After-next_record) → let a = c.args in
    next_of a.b.now (record_start a.body a.cursor a.p.block) a.body.end ≡ c.next_record.result
next_is c =
    let a = c.args in
    sym (c.next_record.ensures ∙ ap (λ (at : ℕ). next_of a.b.now at a.body.end) c.start_of-at.ensures)

-- and where it is a record, what that is
stood : (c : In-Record) → let a = c.args in let g = c.in-Record in
    Stands a.b.now c.start_of-at.result a.body.end g.address g.start g.size g.next
stood c = subst (Says _ _ _) (sym c.next_record.ensures ∙ c.in-Record.is) (says _ _ _)

pub block-requires : goal.block-requires
block-requires c =
    let s = stood (goal.at.block-requires c).In-Record in (s.some, s.few, s.fits)

pub returns-in-End : goal.returns-in-End
returns-in-End c =
    let n = (goal.at.returns-in-End c).After-next_record in
    elim (goal.at.returns-in-End c).In-End.in-End.is [ inl e ↦ rw (next_is n, e) (c.lacking.ensures n.args.cursor) | inr e ↦ rw (next_is n, e) (c.lacking.ensures n.args.cursor) ]

pub returns-in-Record : goal.returns-in-Record
returns-in-Record c =
    let i = (goal.at.returns-in-Record c).After-is_last-last in
    let t = (goal.at.returns-in-Record c).In-Record in
    let n = (goal.at.returns-in-Record c).After-next_record in
    let a = n.args in
    let g = t.in-Record in
    let r : Block = record { address = g.address; bytes = take g.size (drop g.start a.b.now) } in
    rw (next_is n, t.in-Record.is)
    (content_laid _ _ _ (block_length a.p.block (is_last_of a.body.records a.p) r (omega (arith, (stood t).few, length-take g.size (drop g.start a.b.now))))
    (c.block.ensures ∙ ap (λ (l : Bool). block_bytes a.p.block l r) i.is_last-last.ensures))
