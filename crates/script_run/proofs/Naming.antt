-- The names of parameters.
use Rattle.std.proofs.Common.{◌≡◌, ℕ, Bool, true, false, cond, List, [], ◌∷◌, ◌++◌, Option, Some, None, refl, sym, ap, ◌∙◌}
use Rattle.std.specs.Prelude.{is_some, String}
use Rattle.std.specs.Str.{bytes_eq}
use Rattle.std.specs.declared.alloc.Global.{Global}
use Rattle.std.specs.BTreeSet.{BTreeSet, contains_text}
use Rattle.std.proofs.lemmas.Slice.Eq.{bytes_eq-Decides}
use Rattle.rel_sources.specs.declared.pair.Pair.{Pair}
use Rattle.rel_sources.specs.Scenes.{value_of}
use Rattle.script_run.specs.Parameters.{Names}

one_true : (c : Bool) → true ≡ cond c true true
one_true true = refl
one_true false = refl

first_some : (b c : Bool) (v : List ℕ) (x y : Option (List ℕ)) → is_some x ≡ cond c true (is_some y) → is_some (cond b (Some v) x) ≡ cond c true (is_some (cond b (Some v) y))
first_some true c v x y h = one_true c
first_some false c v x y h = h

only_some : (b : Bool) (v : List ℕ) → is_some (cond b (Some v) None) ≡ cond b true false
only_some true v = refl
only_some false v = refl

-- which names there are with one parameter more
pub named_more : (name : List ℕ) (ps : List Pair) (p : Pair) → is_some (value_of name (ps ++ p ∷ [])) ≡ cond (bytes_eq p.name name) true (is_some (value_of name ps))
named_more name [] p = only_some (bytes_eq p.name name) p.value
named_more name (q ∷ ps) p = first_some (bytes_eq q.name name) (bytes_eq p.name name) q.value (value_of name (ps ++ p ∷ [])) (value_of name ps) (named_more name ps p)

-- the names, where that of one parameter more is added
pub names_more : (old new : BTreeSet (String Global)) (ps qs : List Pair) (p : Pair) (key : List ℕ) → key ≡ p.name → qs ≡ ps ++ p ∷ [] →
    ((name : List ℕ) → contains_text new name ≡ cond (bytes_eq key name) true (contains_text old name)) → Names old ps → Names new qs
names_more old new ps qs p key e f sets h = λ name.
    sets name
    ∙ ap (λ k. cond (bytes_eq k name) true (contains_text old name)) e
    ∙ ap (λ b. cond (bytes_eq p.name name) true b) (h name)
    ∙ sym (named_more name ps p)
    ∙ ap (λ l. is_some (value_of name l)) (sym f)

put_back : (b o m n w : Bool) → (b ≡ true → w ≡ false) → m ≡ cond b true o → n ≡ cond b false m → o ≡ w → n ≡ w
put_back true o m n w f e g h = g ∙ sym (f refl)
put_back false o m n w f e g h = g ∙ e ∙ h

-- the names, where one that wasn't there is added and taken out again
pub names_back : (old mid new : BTreeSet (String Global)) (ps qs : List Pair) (key put out : List ℕ) → value_of key ps ≡ None → qs ≡ ps → put ≡ key → out ≡ key →
    ((name : List ℕ) → contains_text mid name ≡ cond (bytes_eq put name) true (contains_text old name)) →
    ((name : List ℕ) → contains_text new name ≡ cond (bytes_eq out name) false (contains_text mid name)) → Names old ps → Names new qs
names_back old mid new ps qs key put out none same e f sets drops h = λ name.
    put_back (bytes_eq key name) (contains_text old name) (contains_text mid name) (contains_text new name) (is_some (value_of name ps))
    (λ t. ap (λ k. is_some (value_of k ps)) (sym ((bytes_eq-Decides key name).0 t)) ∙ ap is_some none)
    (sets name ∙ ap (λ k. cond (bytes_eq k name) true (contains_text old name)) e)
    (drops name ∙ ap (λ k. cond (bytes_eq k name) false (contains_text mid name)) f)
    (h name)
    ∙ ap (λ l. is_some (value_of name l)) (sym same)
