-- What holds of a pocket's text after a save.
use Rattle.std.proofs.Common.{ℕ, List, inl, inr, Option, Some, None, sym, subst}
use Rattle.agent_text.specs.declared.pocket.SaveResult.TheVariants as save
use Rattle.agent_text.specs.Pockets.{Holds, Saves}

pub holds_so : (P Q : Option (List ℕ) → Type 0) → ((now : Option (List ℕ)) → P now → Q now) → (told : Option (Option (List ℕ))) → Holds told P → Holds told Q
holds_so P Q so None h = tt
holds_so P Q so (Some now) h = so now h

pub holds_all : (P : Option (List ℕ) → Type 0) → ((now : Option (List ℕ)) → P now) → (told : Option (Option (List ℕ))) → Holds told P
holds_all P all None = tt
holds_all P all (Some now) = all now

pub after_done : (P : Option (List ℕ) → Type 0) (text : List ℕ) (old new : Option (Option (List ℕ))) → Saves text save.Done old new → P (Some text) → Holds new P
after_done P text None new h p = subst (λ told. Holds told P) (sym h) tt
after_done P text (Some before) None h p = absurd h
after_done P text (Some before) (Some now) h p = subst P (sym h) p

pub after_failed : (P : Option (List ℕ) → Type 0) (text : List ℕ) (old new : Option (Option (List ℕ))) → Saves text save.Failed old new → Holds old P → P (Some text) → Holds new P
after_failed P text None new h held p = subst (λ told. Holds told P) (sym h) tt
after_failed P text (Some before) None h held p = absurd h
after_failed P text (Some before) (Some now) (inl same) held p = subst P (sym same) held
after_failed P text (Some before) (Some now) (inr saved) held p = subst P (sym saved) p

pub after_memory : (P : Option (List ℕ) → Type 0) (text : List ℕ) (old new : Option (Option (List ℕ))) → Saves text save.Memory old new → Holds old P → Holds new P
after_memory P text None new h held = subst (λ told. Holds told P) (sym h) tt
after_memory P text (Some before) None h held = absurd h
after_memory P text (Some before) (Some now) h held = subst P (sym h) held
