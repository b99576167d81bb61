-- `sound::refusal_in` meets its contract: D1, then D2, then D3. Assumes nothing.
use mathlib.Core.Path.{◌≡◌}
use mathlib.Core.Bool.{true}
use Rattle.wire.proofs.Chain.{by}
use Rattle.device_bytes.specs.Layout.{is_record}
use Rattle.device_bytes.proofs.Flags.{record_sized}
use Rattle.device_in_place.proofs.sound.Rows.{other_refused, broken_refused, length_refused, size_refused, all_served}
use Rattle.device_in_place.proofs.sound.refusal_in.Goals.{After-staging_len_in-len, Else-breaks, Else-not-is_record}
use Rattle.device_in_place.proofs.sound.refusal_in.Goals as goal

-- the bytes are a record
is_record_it : (c : Else-not-is_record) → is_record c.args.b.now ≡ true
is_record_it c = by c.is_record.ensures c.if-not-is_record.false

pub returns-then-not-is_record : goal.returns-then-not-is_record
returns-then-not-is_record c =
    let a = c.args in other_refused a.b.now a.size a.n a.m (by c.is_record.ensures c.if-not-is_record.true)

pub breaks-requires : goal.breaks-requires
breaks-requires c = record_sized _ (is_record_it (goal.at.breaks-requires c).Else-not-is_record)

pub returns-then-breaks : goal.returns-then-breaks
returns-then-breaks c =
    let w = (goal.at.returns-then-breaks c).After-staging_len_in-len in
    let a = w.args in
    broken_refused a.b.now a.size a.n a.m (is_record_it (goal.at.returns-then-breaks c).Else-not-is_record) w.staging_len_in-len.result w.staging_len_in-len.ensures (by c.breaks.ensures c.if-breaks.true)

pub returns-then-n-len : goal.returns-then-n-len
returns-then-n-len c =
    let e = (goal.at.returns-then-n-len c).Else-breaks in
    let w = (goal.at.returns-then-n-len c).After-staging_len_in-len in
    let a = w.args in
    length_refused a.b.now a.size a.n a.m (is_record_it (goal.at.returns-then-n-len c).Else-not-is_record) w.staging_len_in-len.result w.staging_len_in-len.ensures (by e.breaks.ensures e.if-breaks.false) c.if-n-len.true

pub returns-then-m-size : goal.returns-then-m-size
returns-then-m-size c =
    let e = (goal.at.returns-then-m-size c).Else-breaks in
    let w = (goal.at.returns-then-m-size c).After-staging_len_in-len in
    let a = w.args in
    size_refused a.b.now a.size a.n a.m (is_record_it (goal.at.returns-then-m-size c).Else-not-is_record) w.staging_len_in-len.result w.staging_len_in-len.ensures (by e.breaks.ensures e.if-breaks.false) c.if-n-len.false c.if-m-size.true

pub returns : goal.returns
returns c =
    let e = (goal.at.returns c).Else-breaks in
    let w = (goal.at.returns c).After-staging_len_in-len in
    let a = w.args in
    all_served a.b.now a.size a.n a.m (is_record_it (goal.at.returns c).Else-not-is_record) w.staging_len_in-len.result w.staging_len_in-len.ensures (by e.breaks.ensures e.if-breaks.false) c.if-n-len.false c.if-m-size.false
