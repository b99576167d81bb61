-- What the bytes of a host's record, and of a checked bundle's contents, promise.
use Rattle.std.specs.Prelude.{ℕ, ◌≡◌, true, false, ◌&&◌, List, eqb, length}
use Rattle.wire.specs.Bytes.{Bytes, Packet}
use Rattle.bundle.specs.Contents.{check_of}
use Rattle.host_record.specs.declared.record.Host.{Host}
use Rattle.host_record.specs.declared.record.HostStage.TheVariants.{Sending}
use Rattle.host_record.specs.Record.{FitsHost, sent_at}
use Rattle.host.specs.Step.{bad_stage, breaks_n1, step_of}
use Rattle.host.specs.Inner.{inner_for, CursorIn}
use Rattle.host_bytes.specs.Layout.{host_size, host_bytes, flags_fit, read_host, no_place, contents_bytes, contents_in, place_in, cursor_in, cursor_for, contents_after}

-- every record is bytes of the one length
abbrev pub HostSized : Type 0
HostSized = (h : Host) → FitsHost h → Packet host_size (host_bytes h)

-- every record reads back
abbrev pub HostReadsBack : Type 0
HostReadsBack = (h : Host) → FitsHost h → read_host (host_bytes h) ≡ h

-- bytes of another length, or with a flag that no record has, are read as a record that N1 refuses over every bundle
abbrev pub OthersBreakN1 : Type 0
OthersBreakN1 = (b bundle : List ℕ) → (eqb (length b) host_size && flags_fit b) ≡ false → breaks_n1 bundle (read_host b) ≡ true

-- contents that the check of b, and the steps over it, leave: the check's answer, and a cursor that is right for the block that it is kept for
pub record Keeps (b q : List ℕ) : Type 0 where
  pub contents : q ≡ contents_bytes (check_of b) (place_in q) (cursor_in q)
  pub cursor : bad_stage b (Sending (sent_at (place_in q))) ≡ false → CursorIn b (Sending (sent_at (place_in q))) (cursor_in q)

-- the check leaves such contents
abbrev pub CheckKeeps : Type 0
CheckKeeps = (b : List ℕ) → Bytes b → Keeps b (contents_bytes (check_of b) no_place 0)

-- over contents that were left for this bundle, at whatever call, the inner step is the step, whatever the record, and leaves such contents again
abbrev pub KeptContentsStep : Type 0
KeptContentsStep =
    (b q : List ℕ) (h : Host) (reply : List ℕ) → Bytes b → Keeps b q
    → ((inner_for b (contents_in q) (cursor_for b q h.stage) h reply).step ≡ step_of b h reply)
    × Keeps b (contents_after q (inner_for b (contents_in q) (cursor_for b q h.stage) h reply))
