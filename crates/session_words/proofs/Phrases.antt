-- A phrase whose words become others, by its parts.
use Rattle.std.proofs.Common.{◌≡◌, ℕ, ℤ, true, false, List, Option, None, Some, is_some, refl}
use Rattle.std.specs.declared.alloc.Global.{Global}
use Rattle.std.specs.declared.boxed.Box.{Box}
use Rattle.rel_lexer.specs.declared.place.Place.{Place}
use Rattle.rel_grammar.specs.declared.tree.Tree.{Tree}
use Rattle.rel_grammar.specs.Holding.{shown_held}
use Rattle.rel_grammar.specs.Trees.{numeral, phrase, Held, a_tree}
use Rattle.session_words.specs.Depths.{adds_folder}
use Rattle.session_words.specs.Inside.{is_in_folder}
use Rattle.session_words.specs.Replaced.{Rewriting, in_folder, over_object, numbered, folder_at, rewritten}

-- a part that may be absent
abbrev pub Part : Type 0
Part = Option (Box Tree Global)

pub as_it_is : (p : Place) (w : List ℕ) (a f : Held) (o : Part) → phrase p w a f (shown_held o) ≡ rewritten p w a f (shown_held o) None
as_it_is p w a f None = refl
as_it_is p w a f (Some o) = refl

-- ---- the words of a folder
pub has_object : (p : Place) (w : List ℕ) (a f : Held) (new path : List ℕ) (o : Part) → is_some o ≡ true
    → phrase p w a f (shown_held o) ≡ rewritten p w a f (shown_held o) (Some (in_folder new path))
has_object p w a f new path None is = absurd (cc)
has_object p w a f new path (Some o) is = refl

pub of_folder : (p : Place) (w : List ℕ) (a f : Held) (new path : List ℕ) (o : Part) → is_some o ≡ false
    → phrase p new a f (a_tree (folder_at p path)) ≡ rewritten p w a f (shown_held o) (Some (in_folder new path))
of_folder p w a f new path None is = refl
of_folder p w a f new path (Some o) is = absurd (cc)

-- ---- words over an object
pub has_none : (p : Place) (w : List ℕ) (a f : Held) (new : List ℕ) (o : Part) → is_some o ≡ false
    → phrase p w a f (shown_held o) ≡ rewritten p w a f (shown_held o) (Some (over_object new))
has_none p w a f new None is = refl
has_none p w a f new (Some o) is = absurd (cc)

pub over_it : (p : Place) (w : List ℕ) (a f : Held) (new : List ℕ) (o : Part) → is_some o ≡ true
    → phrase p new a f (shown_held o) ≡ rewritten p w a f (shown_held o) (Some (over_object new))
over_it p w a f new None is = absurd (cc)
over_it p w a f new (Some o) is = refl

-- ---- words with a number
pub has_argument : (p : Place) (w : List ℕ) (a : Part) (f : Held) (new : List ℕ) (n : ℤ) (o : Part) → is_some a ≡ true
    → phrase p w (shown_held a) f (shown_held o) ≡ rewritten p w (shown_held a) f (shown_held o) (Some (numbered new n))
has_argument p w None f new n o is = absurd (cc)
has_argument p w (Some a) f new n None is = refl
has_argument p w (Some a) f new n (Some o) is = refl

pub has_no_object : (p : Place) (w : List ℕ) (a f : Held) (new : List ℕ) (n : ℤ) (o : Part) → is_some o ≡ false
    → phrase p w a f (shown_held o) ≡ rewritten p w a f (shown_held o) (Some (numbered new n))
has_no_object p w a f new n None is = refl
has_no_object p w a f new n (Some o) is = absurd (cc)

pub with_number : (p : Place) (w : List ℕ) (a : Part) (f : Held) (new : List ℕ) (n : ℤ) (o : Part) → is_some a ≡ false → is_some o ≡ true
    → phrase p new (a_tree (numeral p n)) f (shown_held o) ≡ rewritten p w (shown_held a) f (shown_held o) (Some (numbered new n))
with_number p w (Some a) f new n o alone is = absurd (cc)
with_number p w None f new n None alone is = absurd (cc)
with_number p w None f new n (Some o) alone is = refl

-- ---- whether a folder is added
pub no_folder_over : (o : Part) (r : Option Rewriting) → is_some o ≡ true → false ≡ adds_folder (shown_held o) r
no_folder_over None r is = absurd (cc)
no_folder_over (Some o) r is = refl

pub folder_if : (o : Part) (r : Rewriting) → is_some o ≡ false → is_in_folder r ≡ adds_folder (shown_held o) (Some r)
folder_if None (in_folder new path) is = refl
folder_if None (over_object new) is = refl
folder_if None (numbered new n) is = refl
folder_if (Some o) r is = absurd (cc)

pub no_folder_of_none : (o : Part) → false ≡ adds_folder (shown_held o) None
no_folder_of_none None = refl
no_folder_of_none (Some o) = refl
