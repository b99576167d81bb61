-- `host_bytes` meets its contract: each field at its place. Assumes nothing.
use Rattle.host_bytes.proofs.Record.{record_of}
use Rattle.host_bytes.proofs.host_bytes.Goals.{After-flag_byte, After-flag_byte-2, After-passed_in, After-put_words}
use Rattle.host_bytes.proofs.host_bytes.Goals as goal

pub returns : goal.returns
returns c =
    let t = (goal.at.returns c).After-passed_in in
    let y = (goal.at.returns c).After-flag_byte-2 in
    let x = (goal.at.returns c).After-flag_byte in
    let p = (goal.at.returns c).After-put_words in
    let w = p in
    record_of w.args.h w.stage_words-s.result p.put_words.new.out _ _ _ t.passed_in.result w.stage_words-s.ensures p.put_words.ensures x.flag_byte.ensures y.flag_byte-2.ensures
    t.passed_in.ensures c.flag_byte-3.ensures
