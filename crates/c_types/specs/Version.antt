-- A version as it crosses to C: its three parts.
use Rattle.wire.specs.Version.{major_of, minor_of, variant_of, version_of}
use Rattle.wire.specs.declared.version.Version.{Version}
use Rattle.c_types.specs.declared.types.CVersion.{CVersion}

abbrev pub parts_of : Version → CVersion
parts_of v = record { major = major_of v; minor = minor_of v; variant = variant_of v }

-- the version of these parts
abbrev pub version_in : CVersion → Version
version_in v = version_of v.major v.minor v.variant
