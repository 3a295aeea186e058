-- What a setting or a fill leaves of memory, judged on a map and then done.
use Rattle.std.specs.Prelude.{ℕ, List}
use Rattle.windows.specs.declared.Window.{Window}
use Rattle.commands.specs.rules.Commands.{fill_judged, fill_memory, setting_judged, setting_memory}

abbrev pub set_on : List Window → List ℕ → ℕ → ℕ → ℕ → List ℕ
set_on windows memory word address value = setting_memory (setting_judged windows word address value) memory word value

abbrev pub filled_on : List Window → List ℕ → ℕ → ℕ → ℕ → ℕ → List ℕ
filled_on windows memory address size kind pattern = fill_memory (fill_judged windows address size kind) memory size kind pattern
