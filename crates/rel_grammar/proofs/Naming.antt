-- How names and casts are read, on lists.
use Rattle.std.proofs.Common.{◌≡◌, ℕ, ◌≤◌, List, [], ◌∷◌, ◌++◌, length, refl, sym, ◌∙◌, ap, arith}
use Rattle.rel_lexer.specs.declared.place.Place.{Place}
use Rattle.rel_grammar.specs.declared.vocabulary.Reserved.TheVariants as the
use Rattle.rel_grammar.specs.Shapes.{reserved, word, AnyWord, Shaped}
use Rattle.rel_grammar.specs.declared.error.ParseError.{ParseError}
use Rattle.rel_grammar.specs.declared.error.ParseError.TheVariants.{NoParse, TooDeep, Memory}
use Rattle.rel_grammar.specs.Grammar.{Words, one_word, more_words, Cast, cast_one, cast_more, Reference}
use Rattle.rel_grammar.specs.Spelling.{Mark, mark, words_marks, shapes_of}
use Rattle.rel_grammar.specs.Trees.{Plain, cast, words_text, words_place, cast_head, cast_list, reference_tree}
use Rattle.rel_grammar.specs.Machine.{OverUnary, OverReference, depth_unary, depth_reference, next_cast, begin_primary, next_word, begin_cast, next_cast_word, go}
use Rattle.rel_grammar.specs.Reads.{shaped_at, Lacks, Begins, WordsRead, BeginsWord, CastReads, LacksCast, CastsRead, CastsEnd, CastsGoOn, CastsFail}
use Rattle.rel_grammar.specs.declared.casts.CastTo.{CastTo}
use Rattle.rel_grammar.specs.Shapes.{word_spelling}
use Rattle.rel_grammar.proofs.Absent as absent

split : (a : List Mark) (m : Mark) (rest : List Shaped) → shapes_of (a ++ (m ∷ [])) ++ rest ≡ shapes_of a ++ (m.token ∷ rest)
split [] m rest = refl
split (x ∷ a) m rest = ap (λ l. x.token ∷ l) (split a m rest)

pub words_begin : (w : AnyWord) (p : Place) (tokens : List Shaped) (text : List ℕ) → text ≡ word_spelling w → WordsRead w p tokens text p tokens
words_begin w p tokens text e = record { found = one_word p w; splits = refl; text_is = e; place_is = refl; no_longer = omega arith }

pub words_more : (w : AnyWord) (p : Place) (tokens : List Shaped) (text : List ℕ) (place : Place) (left : List Shaped) (q : Place) (t : List ℕ) (more : List Shaped) (text' : List ℕ) → WordsRead w p tokens text place left → BeginsWord left q t more → text' ≡ (text ++ (32 ∷ [])) ++ t → WordsRead w p tokens text' (record { from = place.from; to = q.to }) more
words_more w p tokens text place left q t more text' r b e = record {
  found = more_words r.found q b.0;
  splits = r.splits ∙ ap (λ l. shapes_of (words_marks 0 r.found) ++ l) b.1 ∙ sym (split (words_marks 0 r.found) (mark 0 (word b.0) q) more);
  text_is = e ∙ ap (λ x. (x ++ (32 ∷ [])) ++ t) r.text_is ∙ ap (λ x. (words_text r.found ++ (32 ∷ [])) ++ x) b.2;
  place_is = ap (λ x. record { from = x.from; to = q.to }) r.place_is;
  no_longer = omega (arith, r.no_longer, ap length b.1);
}

pub run_words : (ws : Words) (C : OverReference) (d : ℕ) (rest : List Shaped) → depth_reference C ≡ d → d ≤ 64 → go (begin_primary C) (shapes_of (words_marks 0 ws) ++ rest) ≡ go (next_word ws C) rest
run_words (one_word p w) C d rest e h = absent.low (depth_reference C) d e h _ _
run_words (more_words ws p w) C d rest e h = ap (go (begin_primary C)) (split (words_marks 0 ws) (mark 0 (word w) p) rest) ∙ run_words ws C d (shaped_at (word w) p ∷ rest) e h ∙ absent.low (depth_reference C) d e h _ _

pub run_cast_words : (ws : Words) (l : Cast) (o : Place) (C : OverUnary) (rest : List Shaped) → depth_unary C ≤ 64 → go (begin_cast l o C) (shapes_of (words_marks 0 ws) ++ rest) ≡ go (next_cast_word l o ws C) rest
run_cast_words (one_word p w) l o C rest h = absent.low (depth_unary C) (depth_unary C) refl h _ _
run_cast_words (more_words ws p w) l o C rest h = ap (go (begin_cast l o C)) (split (words_marks 0 ws) (mark 0 (word w) p) rest) ∙ run_cast_words ws l o C (shaped_at (word w) p ∷ rest) h ∙ absent.low (depth_unary C) (depth_unary C) refl h _ _

pub casts_begin : (x : Reference) (tokens : List Shaped) (p : Place) (next : List Shaped) (list : List CastTo) → Begins (reserved the.As) tokens p next → list ≡ [] → CastsGoOn x tokens list next
casts_begin x tokens p next list e k = record { found = cast_one x; place = p; head_is = refl; casts_are = k; shorter = omega (arith, ap length e); reads = λ C d. ap (go (next_cast (cast_one x) C)) e ∙ absent.low (depth_unary C) (depth_unary C) refl d _ _ }

one_cast : (x : Reference) (tokens : List Shaped) (list : List CastTo) (next : List Shaped) (c : CastTo) (left : List Shaped) → (g : CastsGoOn x tokens list next) → (r : CastReads next c left) → (C : OverUnary) → depth_unary C ≤ 64 → go (next_cast (cast_one x) C) tokens ≡ go (next_cast (cast_more g.found g.place r.words.found) C) left
one_cast x tokens list next c left g r C d = g.reads C d ∙ ap (go (begin_cast g.found g.place C)) (r.begins ∙ r.words.splits) ∙ run_cast_words r.words.found g.found g.place C left d ∙ absent.no_cast_word left g.found g.place r.words.found C r.ends

one_list : (l : Cast) (o : Place) (ws : Words) (list list' : List CastTo) (c : CastTo) → list ≡ cast_list l → list' ≡ list ++ (c ∷ []) → c.place ≡ words_place ws → c.words ≡ words_text ws → list' ≡ cast_list (cast_more l o ws)
one_list l o ws list list' c e k p t = k ∙ ap (λ x. x ++ (c ∷ [])) e ∙ ap (λ x. cast_list l ++ (record { place = x; words = c.words } ∷ [])) p ∙ ap (λ x. cast_list l ++ (record { place = words_place ws; words = x } ∷ [])) t

pub casts_more : (x : Reference) (tokens : List Shaped) (list list' : List CastTo) (next : List Shaped) (c : CastTo) (left : List Shaped) (o : Place) (next' : List Shaped) → CastsGoOn x tokens list next → CastReads next c left → Begins (reserved the.As) left o next' → list' ≡ list ++ (c ∷ []) → CastsGoOn x tokens list' next'
casts_more x tokens list list' next c left o next' g r i k =
    let w = r.words in
    record {
      found = cast_more g.found g.place w.found;
      place = o;
      head_is = g.head_is;
      casts_are = one_list g.found g.place w.found list list' c g.casts_are k w.place_is w.text_is;
      shorter = omega (arith, g.shorter, w.no_longer, ap length r.begins, ap length i);
      reads = λ C d. one_cast x tokens list next c left g r C d ∙ ap (go (next_cast (cast_more g.found g.place w.found) C)) i ∙ absent.low (depth_unary C) (depth_unary C) refl d _ _;
    }

pub casts_last : (x : Reference) (tokens : List Shaped) (list list' : List CastTo) (next : List Shaped) (c : CastTo) (left : List Shaped) → CastsGoOn x tokens list next → CastReads next c left → Lacks (reserved the.As) left → list' ≡ list ++ (c ∷ []) → CastsEnd x tokens list' left
casts_last x tokens list list' next c left g r i k =
    let w = r.words in
    record {
      found = cast_more g.found g.place w.found;
      tree_is = ap (λ y. cast y list') g.head_is ∙ ap (cast (cast_head g.found)) (one_list g.found g.place w.found list list' c g.casts_are k w.place_is w.text_is);
      no_longer = omega (arith, g.shorter, w.no_longer, ap length r.begins);
      reads = λ C d. one_cast x tokens list next c left g r C d ∙ absent.no_as left (cast_more g.found g.place w.found) C i;
    }

pub casts_fail : (x : Reference) (end : ℕ) (tokens : List Shaped) (list : List CastTo) (next : List Shaped) (e : ParseError) → CastsGoOn x tokens list next → LacksCast end next e → CastsFail x end tokens e
casts_fail x end tokens list next (NoParse at) g z = λ C d. (next, g.reads C d ∙ absent.no_first_word next g.found g.place C z.0, z.1)
casts_fail x end tokens list next (TooDeep at) g z = absurd z
casts_fail x end tokens list next Memory g z = λ C d. tt

-- what is cast, with its casts or without
pub casts_none : (x : Reference) (tokens : List Shaped) (tree : Plain) → tree ≡ reference_tree x → Lacks (reserved the.As) tokens → CastsRead x tokens tree tokens
casts_none x tokens tree e h = record { found = cast_one x; tree_is = e; no_longer = omega arith; reads = λ C d. absent.no_as tokens (cast_one x) C h }

pub casts_some : (x : Reference) (tokens : List Shaped) (first : Plain) (list : List CastTo) (left : List Shaped) (tree : Plain) → first ≡ reference_tree x → CastsEnd x tokens list left → tree ≡ cast first list → CastsRead x tokens tree left
casts_some x tokens first list left tree f r a = record { found = r.found; tree_is = a ∙ ap (λ y. cast y list) f ∙ r.tree_is; no_longer = r.no_longer; reads = r.reads }
