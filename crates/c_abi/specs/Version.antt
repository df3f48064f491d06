-- The engine's version, which ltd_version answers; the header's macros and the Python module's __version__ are the same.
use Rattle.std.specs.Prelude.{ℕ, ◌+◌, ◌*◌}

unfoldable pub major : ℕ
major = 1

unfoldable pub minor : ℕ
minor = 1

unfoldable pub patch : ℕ
patch = 0

unfoldable pub version_number : ℕ
version_number = 65536 * major + 256 * minor + patch
