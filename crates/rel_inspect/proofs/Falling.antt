-- Going through the folders below a folder.
use Rattle.std.proofs.Common.{◌≡◌, ℕ, zero, suc, ◌+◌, ◌-◌, ◌<◌, ◌≤◌, Bool, true, false, cond, List, [], ◌∷◌, ◌++◌, length, drop, refl, sym, ap, ◌∙◌, arith, length-append}
use Rattle.bf_world.specs.declared.answer.Entry.{Entry}
use Rattle.bf_world.specs.declared.key.Key.TheVariants as key
use Rattle.bf_world.specs.Paths.{joined}
use Rattle.bf_world.specs.Shown.{shown}
use Rattle.bf_world.specs.Worlds.{WorldState}
use Rattle.rel_value.specs.Plain.{file}
use Rattle.rel_inspect.specs.declared.descent.Level.{Level}
use Rattle.rel_inspect.specs.declared.descent.Ahead.TheVariants as ahead
use Rattle.rel_inspect.specs.declared.descent.Descent.{Descent}
use Rattle.rel_sources.specs.Traces.{Trace, Ends, After, Stop, TooLong, Look, Turn, Give, none, one, follow}
use Rattle.rel_sources.specs.Rows.{entries_of}
use Rattle.rel_inspect.specs.Below.{entries_below, below, descendants}
use Rattle.rel_inspect.specs.Descents.{entries_left, level_left, levels_left, above_left, ahead_left, descent_left, Enters}

pub follow-none : (t : Trace) → follow t none ≡ t
follow-none (Ends Stop) = refl
follow-none (Ends TooLong) = refl
follow-none (After e t) = ap (After e) (follow-none t)

pub follow-follow : (t u v : Trace) → follow (follow t u) v ≡ follow t (follow u v)
follow-follow (Ends Stop) u v = refl
follow-follow (Ends TooLong) u v = refl
follow-follow (After e t) u v = ap (After e) (follow-follow t u v)

pub below-look : (w : WorldState) (n : ℕ) (path : List ℕ) → below w (suc n) path ≡ After (Look (key.List path)) (entries_below (below w n) path (entries_of (shown w (key.List path))))
unfolding below
below-look w n path = refl

pub below-zero : (w : WorldState) (path : List ℕ) → below w 0 path ≡ none
unfolding below
below-zero w path = refl

-- the list of a folder that stands in so many others
pub below-list : (w : WorldState) (depth : ℕ) (path : List ℕ) → depth < 1023 → below w (1023 - depth) path ≡ After (Look (key.List path)) (entries_left w (depth + 1) path (entries_of (shown w (key.List path))))
below-list w depth path h =
    let one_more : 1023 - depth ≡ suc (1023 - (depth + 1)) = omega arith in
    ap (λ n. below w n path) one_more ∙ below-look w (1023 - (depth + 1)) path

-- no folder stands deeper
pub below-last : (w : WorldState) (depth : ℕ) (path : List ℕ) → 1023 ≤ depth → below w (1023 - depth) path ≡ none
below-last w depth path h =
    let no_more : 1023 - depth ≡ 0 = omega arith in
    ap (λ n. below w n path) no_more ∙ below-zero w path

-- one more folder at the top
pub levels-push : (w : WorldState) (depth : ℕ) (rest : Trace) (ls : List Level) (l : Level) → levels_left w depth rest (ls ++ (l ∷ [])) ≡ follow (level_left w (depth + length ls) l) (levels_left w depth rest ls)
levels-push w depth rest [] l = ap (λ d. follow (level_left w d l) rest) (let same : depth ≡ depth + 0 = omega arith in same)
levels-push w depth rest (x ∷ xs) l =
    let same : suc depth + length xs ≡ depth + length (x ∷ xs) = omega arith in
    levels-push w (suc depth) (follow (level_left w depth x) rest) xs l
    ∙ ap (λ d. follow (level_left w d l) (levels_left w (suc depth) (follow (level_left w depth x) rest) xs)) same

past : {A : Type 0} (xs : List A) (n : ℕ) → length xs ≤ n → drop n xs ≡ []
past [] zero below = refl
past [] (suc n) below = refl
past (x ∷ xs) zero below = absurd (omega arith)
past (x ∷ xs) (suc n) below = past xs n (omega arith)

-- what the folders above leave, where one more stands at their end
above-push : (w : WorldState) (ls : List Level) (l : Level) → levels_left w 0 none (ls ++ (l ∷ [])) ≡ follow (level_left w (length ls) l) (levels_left w 0 none ls)
above-push w ls l =
    levels-push w 0 none ls l ∙ ap (λ (n : ℕ). follow (level_left w n l) (levels_left w 0 none ls)) (let same : 0 + length ls ≡ length ls = omega arith in same)

-- the turn of an entry, and what follows it
turned : (w : WorldState) (d : Descent) (e : Entry) (b : Bool) → d.ahead ≡ ahead.Turn → drop d.top.next d.top.entries ≡ e ∷ drop (d.top.next + 1) d.top.entries → e.folder ≡ b
    → descent_left w d ≡ After Turn (follow (follow (cond b (below w (1023 - length d.above.items) (joined d.top.path e.name)) (one (file (joined d.top.path e.name)))) (entries_left w (length d.above.items) d.top.path (drop (d.top.next + 1) d.top.entries))) (above_left w d))
turned w d e b turn first is =
    ap (ahead_left w d) turn
    ∙ ap (λ (es : List Entry). follow (entries_left w (length d.above.items) d.top.path es) (above_left w d)) first
    ∙ ap (λ (x : Bool). After Turn (follow (follow (cond x (below w (1023 - length d.above.items) (joined d.top.path e.name)) (one (file (joined d.top.path e.name)))) (entries_left w (length d.above.items) d.top.path (drop (d.top.next + 1) d.top.entries))) (above_left w d))) is

-- a file is given next
pub goes-file : (w : WorldState) (d : Descent) (e : Entry) (path : List ℕ) → d.ahead ≡ ahead.Turn → drop d.top.next d.top.entries ≡ e ∷ drop (d.top.next + 1) d.top.entries → e.folder ≡ false → path ≡ joined d.top.path e.name
    → descent_left w d ≡ After Turn (descent_left w (record d { ahead = ahead.File path; top = record d.top { next = d.top.next + 1 } }))
goes-file w d e path turn first is at =
    turned w d e false turn first is
    ∙ ap (λ (p : List ℕ). After Turn (After (Give (file p)) (follow (entries_left w (length d.above.items) d.top.path (drop (d.top.next + 1) d.top.entries)) (above_left w d)))) (sym at)

-- a folder that stands too deep is passed over
pub goes-past : (w : WorldState) (d new : Descent) (e : Entry) → d.ahead ≡ ahead.Turn → drop d.top.next d.top.entries ≡ e ∷ drop (d.top.next + 1) d.top.entries → e.folder ≡ true → 1023 ≤ length d.above.items
    → new ≡ record d { top = record d.top { next = d.top.next + 1 } } → descent_left w d ≡ After Turn (descent_left w new)
goes-past w d new e turn first is deep same =
    let later : Descent = record d { top = record d.top { next = d.top.next + 1 } } in
    turned w d e true turn first is
    ∙ ap (λ (t : Trace). After Turn (follow (follow t (entries_left w (length d.above.items) d.top.path (drop (d.top.next + 1) d.top.entries))) (above_left w d))) (below-last w (length d.above.items) (joined d.top.path e.name) deep)
    ∙ ap (After Turn) (sym (ap (ahead_left w later) turn))
    ∙ ap (λ (x : Descent). After Turn (descent_left w x)) (sym same)

-- a folder is entered
pub goes-in : (w : WorldState) (d mid new : Descent) (e : Entry) (path : List ℕ) → d.ahead ≡ ahead.Turn → drop d.top.next d.top.entries ≡ e ∷ drop (d.top.next + 1) d.top.entries → e.folder ≡ true → length d.above.items < 1023
    → path ≡ joined d.top.path e.name → mid ≡ record d { top = record d.top { next = d.top.next + 1 } } → Enters mid path new → descent_left w d ≡ After Turn (descent_left w new)
goes-in w d mid new e path turn first is high at same enters =
    let depth = length d.above.items in
    let later : Level = record d.top { next = d.top.next + 1 } in
    let above : new.above.items ≡ d.above.items ++ (later ∷ []) = enters.above ∙ ap (λ (m : Descent). m.above.items ++ (m.top ∷ [])) same in
    let more : length (d.above.items ++ (later ∷ [])) ≡ depth + 1 = length-append d.above.items (later ∷ []) in
    turned w d e true turn first is
    ∙ ap (λ (t : Trace). After Turn (follow (follow t (level_left w depth later)) (above_left w d))) (below-list w depth (joined d.top.path e.name) high)
    ∙ ap (λ (p : List ℕ). After Turn (After (Look (key.List p)) (follow (follow (entries_left w (depth + 1) p (entries_of (shown w (key.List p)))) (level_left w depth later)) (above_left w d)))) (sym at)
    ∙ ap (λ (t : Trace). After Turn (After (Look (key.List path)) t)) (follow-follow (entries_left w (depth + 1) path (entries_of (shown w (key.List path)))) (level_left w depth later) (above_left w d))
    ∙ ap (λ (t : Trace). After Turn (After (Look (key.List path)) (follow (entries_left w (depth + 1) path (entries_of (shown w (key.List path)))) t))) (sym (above-push w d.above.items later))
    ∙ ap (λ (n : ℕ). After Turn (After (Look (key.List path)) (follow (entries_left w n path (entries_of (shown w (key.List path)))) (levels_left w 0 none (d.above.items ++ (later ∷ [])))))) (sym more)
    ∙ ap (λ (ls : List Level). After Turn (After (Look (key.List path)) (follow (entries_left w (length ls) path (entries_of (shown w (key.List path)))) (levels_left w 0 none ls)))) (sym above)
    ∙ ap (λ (p : List ℕ). After Turn (After (Look (key.List path)) (follow (entries_left w (length new.above.items) p (entries_of (shown w (key.List path)))) (above_left w new)))) (sym enters.top)
    ∙ ap (After Turn) (sym (ap (ahead_left w new) enters.ahead))

-- a folder without further entries leaves what the folders above leave
emptied : (w : WorldState) (d : Descent) → d.ahead ≡ ahead.Turn → length d.top.entries ≤ d.top.next → descent_left w d ≡ above_left w d
emptied w d turn done =
    ap (ahead_left w d) turn ∙ ap (λ (es : List Entry). follow (entries_left w (length d.above.items) d.top.path es) (above_left w d)) (past d.top.entries d.top.next done)

-- the folder above goes on
pub goes-up : (w : WorldState) (d new : Descent) (front : List Level) (l : Level) → d.ahead ≡ ahead.Turn → length d.top.entries ≤ d.top.next → d.above.items ≡ front ++ (l ∷ []) → new.ahead ≡ ahead.Turn → new.top ≡ l → new.above.items ≡ front
    → descent_left w d ≡ descent_left w new
goes-up w d new front l turn done above turn' top above' =
    emptied w d turn done
    ∙ ap (levels_left w 0 none) above
    ∙ above-push w front l
    ∙ ap (λ (x : Level). follow (level_left w (length front) x) (levels_left w 0 none front)) (sym top)
    ∙ ap (λ (ls : List Level). follow (level_left w (length ls) new.top) (levels_left w 0 none ls)) (sym above')
    ∙ sym (ap (ahead_left w new) turn')

-- nothing is left
pub goes-out : (w : WorldState) (d : Descent) → d.ahead ≡ ahead.Turn → length d.top.entries ≤ d.top.next → d.above.items ≡ [] → descent_left w d ≡ none
goes-out w d turn done above = emptied w d turn done ∙ ap (levels_left w 0 none) above

-- a walk begins with the list of its folder
pub begins : (w : WorldState) (d : Descent) (asked path : List ℕ) → d.ahead ≡ ahead.Look (key.List asked) → d.above.items ≡ [] → d.top.path ≡ path → asked ≡ path → descent_left w d ≡ descendants w path
begins w d asked path look above top same =
    ap (ahead_left w d) look
    ∙ ap (λ (ls : List Level). After (Look (key.List asked)) (follow (entries_left w (length ls) d.top.path (entries_of (shown w (key.List asked)))) (levels_left w 0 none ls))) above
    ∙ ap (λ (p : List ℕ). After (Look (key.List asked)) (follow (entries_left w 0 p (entries_of (shown w (key.List asked)))) none)) top
    ∙ ap (After (Look (key.List asked))) (follow-none (entries_left w 0 path (entries_of (shown w (key.List asked)))))
    ∙ ap (λ (k : List ℕ). After (Look (key.List k)) (entries_left w 0 path (entries_of (shown w (key.List k))))) same
    ∙ sym (below-look w 1023 path)
