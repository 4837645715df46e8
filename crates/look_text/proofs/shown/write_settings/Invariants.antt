use Rattle.std.proofs.Common.{◌≡◌, ◌++◌, take}
use Rattle.std.specs.Prelude.{flat_map}
use Rattle.look_text.specs.Texts.{setting_text}
use Rattle.look_text.proofs.shown.write_settings.Given as goal

-- the texts of the settings so far were written
abbrev pub invariant-loop-setting : goal.invariant-loop-setting
invariant-loop-setting l = l.words ≡ l.initial.words ++ flat_map setting_text (take l.setting-index l.settings)
