-- Components whose values are those of the types, each of a list. Assumes nothing.
pub use Rattle.device_component.proofs.record.Fits.{component_fits, blank_fits, AllFit, all_fit}
