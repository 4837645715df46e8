-- The row of a property: what is drawn of its question in a world.
use Rattle.std.specs.Prelude.{◌≡◌, ℕ, ◌≤◌, nat_le, nat_lt, ℤ, Bool, true, false, not, ◌&&◌, ◌||◌, List, [], ◌∷◌, length, map, take, take_while, All, None, Some}
use Rattle.std.specs.declared.option.Option.{Option}
use Rattle.std.specs.List.{list_any}
use Rattle.bf_world.specs.Worlds.{WorldState}
use Rattle.rel_value.specs.Plain.{Plain}
use Rattle.rel_value.specs.Texts.{text_of}
use Rattle.rel_types.specs.Plans.{PlainNode}
use Rattle.rel_sources.specs.declared.scene.Scene.{Scene}
use Rattle.rel_trace.specs.Trace.{Stop, Error, Look, Turn, Give, Trace, Ends, After}
use Rattle.rel_eval.specs.Cuts.{meaning}
use Rattle.rel_eval.specs.Questions.{IsPlanOf}
use Rattle.group_text.specs.declared.property.Property.{Property}
use Rattle.group_sample.specs.declared.sample.Sampled.{Sampled}

-- the values of a trace, in their order
abbrev pub values_of : Trace → List Plain
values_of (Ends end) = []
values_of (After (Look place key) t) = values_of t
values_of (After (Turn place) t) = values_of t
values_of (After (Give value) t) = value ∷ values_of t

-- whether a trace ends in an error
abbrev pub ends_in_error : Trace → Bool
ends_in_error (Ends Stop) = false
ends_in_error (Ends (Error kind place)) = true
ends_in_error (After event t) = ends_in_error t

-- the most values of a row
abbrev pub most_values : ℕ
most_values = 100

-- a text that a row may keep: of at most 1,024 bytes
abbrev pub is_short : List ℕ → Bool
is_short text = nat_le (length text) 1024

-- the texts of the first 100 values of a trace
abbrev pub first_texts : ℤ → Trace → List (List ℕ)
first_texts offset t = take most_values (map (text_of offset) (values_of t))

-- the values of a row: those before the first text that is too long
abbrev pub row_values : ℤ → Trace → List (List ℕ)
row_values offset t = take_while is_short (first_texts offset t)

-- whether a row has an error: one of these texts is too long, or the trace ends in an error before its 100th value
abbrev pub row_error : ℤ → Trace → Bool
row_error offset t =
    list_any (λ text. not (is_short text)) (first_texts offset t)
    || (nat_lt (length (values_of t)) most_values && ends_in_error t)

-- where a property is measured: at a moment and an offset, without parameters and exit code
abbrev pub scene_at : ℤ → ℤ → Scene
scene_at moment offset = record { moment = moment; offset = offset; parameters = []; exit = None }

-- nothing is known in it but when and where
abbrev pub IsBareScene : Scene → Type 0
IsBareScene scene = scene ≡ scene_at scene.moment scene.offset

-- the row of a property whose question gives this trace at a moment and an offset
abbrev pub row_from : Property → ℤ → ℤ → Trace → Sampled
row_from p moment offset t = record {
  property = p.name;
  moment = moment;
  values = row_values offset t;
  error = row_error offset t;
}

-- the row is that of the property in this world
abbrev pub IsRowIn : WorldState → ℤ → ℤ → Property → Sampled → Type 0
IsRowIn w moment offset p row =
    (plan : PlainNode) × IsPlanOf p.question plan × (row ≡ row_from p moment offset (meaning w (scene_at moment offset) plan))

-- the row is one of the property at this moment, and that of the world where a machine tells it
pub record IsRowOf (world : Option WorldState) (moment offset : ℤ) (p : Property) (row : Sampled) : Type 0 where
  pub property : row.property ≡ p.name
  pub at_moment : row.moment ≡ moment
  pub few : length row.values ≤ most_values
  pub short : All (λ text. length text ≤ 1024) row.values
  pub drawn : (w : WorldState) → world ≡ Some w → IsRowIn w moment offset p row
