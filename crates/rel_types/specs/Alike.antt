-- Whether two kinds are the same. A text and a part of one are not.
use Rattle.std.specs.Prelude.{Bool, true, false, ◌&&◌}
use Rattle.rel_value.specs.Plain.{PlainKind, booleans, integers, texts, text_parts, times, intervals, versions, files, folders, clients, settings, processes, packages, systems, actions, tuples, PlainKinds, no_kinds, more_kinds}

abbrev mutual
  pub same_kind : PlainKind → PlainKind → Bool
  same_kind booleans booleans = true
  same_kind integers integers = true
  same_kind texts texts = true
  same_kind text_parts text_parts = true
  same_kind times times = true
  same_kind intervals intervals = true
  same_kind versions versions = true
  same_kind files files = true
  same_kind folders folders = true
  same_kind clients clients = true
  same_kind settings settings = true
  same_kind processes processes = true
  same_kind packages packages = true
  same_kind systems systems = true
  same_kind actions actions = true
  same_kind (tuples ks) (tuples ls) = same_kinds ks ls
  same_kind _ _ = false

  pub same_kinds : PlainKinds → PlainKinds → Bool
  same_kinds no_kinds no_kinds = true
  same_kinds (more_kinds ks k) (more_kinds ls l) = same_kinds ks ls && same_kind k l
  same_kinds _ _ = false
