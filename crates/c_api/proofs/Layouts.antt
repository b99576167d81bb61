-- The layouts of include/cfu.h, computed. Assumes nothing.
use mathlib.Core.Path.{refl}
use mathlib.Core.List.{flatten, map}
use Rattle.device_bytes.specs.Layout.{components_bytes, device_bytes}
use Rattle.host_bytes.specs.Layout.{host_bytes, bodies_bytes, contents_bytes}
use Rattle.c_api.specs.Layouts.{LayoutsHold}

pub layouts_hold : LayoutsHold
unfolding flatten map components_bytes device_bytes host_bytes bodies_bytes contents_bytes
layouts_hold = record {
  component = refl;
  listed = refl;
  offering = refl;
  receives = refl;
  records = refl;
  awaits = refl;
  hosts = refl;
  flags = refl;
  fresh = refl;
  keeps = refl;
  silent = refl;
  single = refl;
  double = refl;
  counts = refl;
}
