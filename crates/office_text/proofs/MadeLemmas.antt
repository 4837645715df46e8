-- The text that is made, piece by piece.
use Rattle.std.proofs.Common.{ℕ, ◌≡◌, ◌+◌, List, [], ◌∷◌, ◌++◌, refl, sym, ap, ◌∙◌, arith, add-one, append_assoc, append-nil}
use Rattle.std.specs.Prelude.{codes, decimal, flat_map}
use Rattle.std.proofs.lemmas.List.{flat_map_more, map-id}
use Rattle.std.proofs.lemmas.List.FromFn.{map-range_with_len_more}
use Rattle.hex.specs.Hex.{encode_lower}
use Rattle.sha2.specs.Sha256.{sha256}
use Rattle.line_forms.specs.Fields.{field_text}
use Rattle.line_forms.specs.Lines.{lines_text}
use Rattle.line_forms.proofs.LineLemmas.{lines_text-append}
use Rattle.office_text.specs.Made.{action_lines, computer_lines, computers_lines, draw_at, next_draw, office_of, places, site_body, site_digest, site_lines, turn_lines, turns_lines}
use Rattle.office_text.proofs.Fronts.{Lines}

places_more : (n : ℕ) → places (n + 1) ≡ places n ++ (n + 1) ∷ []
places_more n =
    sym (map-id (places (n + 1))) ∙ map-range_with_len_more (λ (x : ℕ). x) 1 n (n + 1) (omega arith) ∙ ap (λ l. l ++ (n + 1) ∷ []) (map-id (places n))

-- the lines of one place more
pub place_more : (lines_at : ℕ → Lines) (n : ℕ) (start old new : List ℕ) → old ≡ start ++ lines_text (flat_map lines_at (places n)) → new ≡ old ++ lines_text (lines_at (n + 1)) → new ≡ start ++ lines_text (flat_map lines_at (places (n + 1)))
place_more lines_at n start old new old_is new_is =
    let lines : flat_map lines_at (places (n + 1)) ≡ flat_map lines_at (places n) ++ lines_at (n + 1) = ap (flat_map lines_at) (places_more n) ∙ sym (flat_map_more lines_at [] (places n) (n + 1)) in
    new_is ∙ ap (λ l. l ++ lines_text (lines_at (n + 1))) old_is ∙ append_assoc start (lines_text (flat_map lines_at (places n))) (lines_text (lines_at (n + 1)))
    ∙ ap (λ l. start ++ l) (sym (lines_text-append (flat_map lines_at (places n)) (lines_at (n + 1))) ∙ ap lines_text (sym lines))

-- a piece that is written behind the others
more : (a b : Lines) (literal rest old mid new : List ℕ) → literal ++ rest ≡ lines_text b → old ≡ lines_text a → mid ≡ old ++ literal → new ≡ mid ++ rest → new ≡ lines_text (a ++ b)
more a b literal rest old mid new piece old_is mid_is new_is =
    new_is ∙ ap (λ l. l ++ rest) (mid_is ∙ ap (λ l. l ++ literal) old_is) ∙ append_assoc (lines_text a) literal rest ∙ ap (λ l. lines_text a ++ l) piece ∙ sym (lines_text-append a b)

-- all pieces make the text
pub made_is : (n : ℕ) (a b c d e f g h out : List ℕ) → a ≡ codes "office\npublish\n" → b ≡ a ++ lines_text site_lines → c ≡ b ++ codes "act\n" → d ≡ c ++ lines_text action_lines → e ≡ d ++ codes "relay r1\n" →
    f ≡ e ++ lines_text (computers_lines n) → g ≡ f ++ codes "gather r1\n" → h ≡ g ++ lines_text (turns_lines n) → out ≡ h ++ codes "forward r1\nend\n" → out ≡ office_of n
made_is n a b c d e f g h out a_is b_is c_is d_is e_is f_is g_is h_is out_is =
    let A : Lines = codes "office" ∷ codes "publish" ∷ [] in
    let one : b ≡ lines_text (A ++ site_lines) = b_is ∙ ap (λ l. l ++ lines_text site_lines) a_is ∙ sym (lines_text-append A site_lines) in
    let two = more (A ++ site_lines) (codes "act" ∷ action_lines) (codes "act\n") (lines_text action_lines) b c d refl one c_is d_is in
    let three = more (A ++ site_lines ++ (codes "act" ∷ action_lines)) (codes "relay r1" ∷ computers_lines n) (codes "relay r1\n") (lines_text (computers_lines n)) d e f refl two e_is f_is in
    let four = more (A ++ site_lines ++ (codes "act" ∷ action_lines) ++ (codes "relay r1" ∷ computers_lines n)) (codes "gather r1" ∷ turns_lines n) (codes "gather r1\n") (lines_text (turns_lines n)) f g h refl three g_is h_is in
    out_is ∙ ap (λ l. l ++ codes "forward r1\nend\n") four
    ∙ sym (lines_text-append (A ++ site_lines ++ (codes "act" ∷ action_lines) ++ (codes "relay r1" ∷ computers_lines n) ++ (codes "gather r1" ∷ turns_lines n)) (codes "forward r1" ∷ codes "end" ∷ []))

-- the lines of a computer
pub computer_written : (place digit : ℕ) (start a b c d e f out : List ℕ) → a ≡ start ++ codes "computer c" → b ≡ a ++ decimal place → c ≡ b ++ codes " r1\nworld\nname c" → d ≡ c ++ decimal place →
    e ≡ d ++ codes "\nsystem 12.4 Debian\noffset 0\nmoment 1000\npackage 1." → f ≡ e ++ decimal digit → out ≡ f ++ codes " agentd\nprogram 0 0 upgrade agentd\ngives 1.2 agentd\nend\n" → out ≡ start ++ lines_text (computer_lines place digit)
unfolding computer_lines
computer_written place digit start a b c d e f out a_is b_is c_is d_is e_is f_is out_is =
    let D : List ℕ = decimal place in
    let W : List ℕ = decimal digit in
    let one = codes "computer c" in
    let two = codes " r1\nworld\nname c" in
    let three = codes "\nsystem 12.4 Debian\noffset 0\nmoment 1000\npackage 1." in
    let four = codes " agentd\nprogram 0 0 upgrade agentd\ngives 1.2 agentd\nend\n" in
    let whole : out ≡ start ++ (one ++ (D ++ (two ++ (D ++ (three ++ (W ++ four)))))) =
    behind start a out one (D ++ (two ++ (D ++ (three ++ (W ++ four))))) a_is
    (behind a b out D (two ++ (D ++ (three ++ (W ++ four)))) b_is
    (behind b c out two (D ++ (three ++ (W ++ four))) c_is
    (behind c d out D (three ++ (W ++ four)) d_is
    (behind d e out three (W ++ four) e_is
    (behind e f out W four f_is out_is))))) in
    let last_line : ((W ++ codes " agentd") ++ 10 ∷ []) ++ codes "program 0 0 upgrade agentd\ngives 1.2 agentd\nend\n" ≡ W ++ four =
    append_assoc (W ++ codes " agentd") (10 ∷ []) (codes "program 0 0 upgrade agentd\ngives 1.2 agentd\nend\n") ∙ append_assoc W (codes " agentd") (codes "\nprogram 0 0 upgrade agentd\ngives 1.2 agentd\nend\n") in
    let system : List ℕ = codes "system 12.4 Debian\noffset 0\nmoment 1000\npackage 1." ++ (((W ++ codes " agentd") ++ 10 ∷ []) ++ codes "program 0 0 upgrade agentd\ngives 1.2 agentd\nend\n") in
    let name_line : (D ++ 10 ∷ []) ++ system ≡ D ++ (three ++ (W ++ four)) = append_assoc D (10 ∷ []) system ∙ ap (λ l. D ++ (three ++ l)) last_line in
    let world : List ℕ = codes "world\nname c" ++ ((D ++ 10 ∷ []) ++ system) in
    let first_line : ((D ++ codes " r1") ++ 10 ∷ []) ++ world ≡ D ++ (two ++ (D ++ (three ++ (W ++ four)))) =
    append_assoc (D ++ codes " r1") (10 ∷ []) world ∙ append_assoc D (codes " r1") (10 ∷ world) ∙ ap (λ l. D ++ (two ++ l)) name_line in
    whole ∙ ap (λ l. start ++ (one ++ l)) (sym first_line)
  where
    behind : (x y new p q : List ℕ) → y ≡ x ++ p → new ≡ y ++ q → new ≡ x ++ (p ++ q)
    behind x y new p q h k = k ∙ ap (λ l. l ++ q) h ∙ append_assoc x p q

-- the lines of a turn and a report
pub turn_written : (place : ℕ) (start a b c d out : List ℕ) → a ≡ start ++ codes "turn c" → b ≡ a ++ decimal place → c ≡ b ++ codes " 1000\nreport c" → d ≡ c ++ decimal place → out ≡ d ++ 10 ∷ [] → out ≡ start ++ lines_text (turn_lines place)
unfolding turn_lines
turn_written place start a b c d out a_is b_is c_is d_is out_is =
    let D : List ℕ = decimal place in
    let one = codes "turn c" in
    let two = codes " 1000\nreport c" in
    let whole : out ≡ start ++ (one ++ (D ++ (two ++ (D ++ 10 ∷ [])))) =
    behind start a out one (D ++ (two ++ (D ++ 10 ∷ []))) a_is
    (behind a b out D (two ++ (D ++ 10 ∷ [])) b_is
    (behind b c out two (D ++ 10 ∷ []) c_is
    (behind c d out D (10 ∷ []) d_is out_is))) in
    let report : (D ++ 10 ∷ []) ++ [] ≡ D ++ 10 ∷ [] = append-nil (D ++ 10 ∷ []) in
    let turn : ((D ++ codes " 1000") ++ 10 ∷ []) ++ (codes "report c" ++ ((D ++ 10 ∷ []) ++ [])) ≡ D ++ (two ++ (D ++ 10 ∷ [])) =
    append_assoc (D ++ codes " 1000") (10 ∷ []) (codes "report c" ++ ((D ++ 10 ∷ []) ++ [])) ∙ append_assoc D (codes " 1000") (codes "\nreport c" ++ ((D ++ 10 ∷ []) ++ [])) ∙ ap (λ l. D ++ (two ++ l)) report in
    whole ∙ ap (λ l. start ++ (one ++ l)) (sym turn)
  where
    behind : (x y new p q : List ℕ) → y ≡ x ++ p → new ≡ y ++ q → new ≡ x ++ (p ++ q)
    behind x y new p q h k = k ∙ ap (λ l. l ++ q) h ∙ append_assoc x p q

-- the site with its digest
pub site_written : (start a b c out digest : List ℕ) → a ≡ start ++ lines_text site_body → b ≡ a ++ codes "digest " → c ≡ b ++ encode_lower digest → out ≡ c ++ 10 ∷ [] → digest ≡ site_digest → out ≡ start ++ lines_text site_lines
site_written start a b c out digest a_is b_is c_is out_is digest_is =
    let H : List ℕ = encode_lower site_digest in
    let hex : c ≡ b ++ H = c_is ∙ ap (λ d. b ++ encode_lower d) digest_is in
    let line : out ≡ b ++ (H ++ 10 ∷ []) = out_is ∙ ap (λ l. l ++ 10 ∷ []) hex ∙ append_assoc b H (10 ∷ []) in
    let whole : out ≡ (start ++ lines_text site_body) ++ (codes "digest " ++ (H ++ 10 ∷ [])) =
    line ∙ ap (λ l. l ++ (H ++ 10 ∷ [])) (b_is ∙ ap (λ l. l ++ codes "digest ") a_is) ∙ append_assoc (start ++ lines_text site_body) (codes "digest ") (H ++ 10 ∷ []) in
    whole ∙ append_assoc start (lines_text site_body) (codes "digest " ++ (H ++ 10 ∷ []))
    ∙ ap (λ l. start ++ (lines_text site_body ++ (codes "digest " ++ l))) (sym (append-nil (H ++ 10 ∷ [])))
    ∙ ap (λ l. start ++ l) (sym (lines_text-append site_body ((field_text (codes "digest") ++ H) ∷ [])))

-- the digest that is written is that of the site
pub digest_is : (text digest : List ℕ) → text ≡ lines_text site_body → digest ≡ sha256 text → digest ≡ site_digest
unfolding site_digest
digest_is text digest text_is is = is ∙ ap sha256 text_is

-- the number that is drawn next
pub draw_more : (n place drawn next : ℕ) → drawn ≡ draw_at n place → next ≡ next_draw drawn → next ≡ draw_at n (place + 1)
draw_more n place drawn next drawn_is next_is = next_is ∙ ap next_draw drawn_is ∙ ap (draw_at n) (sym (add-one place))
