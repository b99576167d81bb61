-- The laws of a table's entries, for the crates that name this one: the module `table` is private to it. Assumes nothing.
pub use Rattle.bundle.proofs.table.Laws.{entry_at, length_entry, length_entries, entry_is}
pub use Rattle.bundle.proofs.table.Laws.{first_here, first_on, first_end}
