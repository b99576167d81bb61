-- `cursor_over`: by its test. Assumes nothing.
use Rattle.c_host_step.proofs.cursor_over.Goals as goal

pub returns-then-is_kept : goal.returns-then-is_kept
returns-then-is_kept c = rw (← c.is_kept.ensures, c.if-is_kept.true) c.read_cursor.ensures

pub returns-else-is_kept : goal.returns-else-is_kept
returns-else-is_kept c = rw (← c.is_kept.ensures, c.if-is_kept.false) c.cursor_for.ensures
