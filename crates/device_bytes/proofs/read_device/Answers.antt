-- `read_device` meets its contract: by whether the bytes are a record. Assumes nothing.
use mathlib.Core.Path.{◌∙◌}
use Rattle.wire.proofs.Chain.{by}
use Rattle.device_bytes.specs.Layout.{read_device}
use Rattle.device_bytes.proofs.Flags.{record_fields}
use Rattle.device_bytes.proofs.read_device.Goals as goal

pub returns-then-is_record : goal.returns-then-is_record
unfolding read_device
returns-then-is_record c =
    let e = by c.is_record.ensures c.if-is_record.true in rw e (c.fields_in.ensures ∙ record_fields _ e)

pub returns-else-is_record : goal.returns-else-is_record
unfolding read_device
returns-else-is_record c = rw (by c.is_record.ensures c.if-is_record.false) c.blank.ensures
