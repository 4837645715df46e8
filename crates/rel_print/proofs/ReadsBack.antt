-- What is printed for the tree of a text is no longer than the text, and reads as the same tree but for places.
use Rattle.std.proofs.Common.{◌≡◌, ℕ, ◌≤◌, false, List, length, map, ap, ◌∙◌, arith}
use Rattle.rel_grammar.specs.Trees.{Plain, question_tree}
use Rattle.rel_print.specs.declared.pen.Last.TheVariants as last
use Rattle.rel_print.specs.Pages.{blank_page}
use Rattle.rel_print.specs.Written.{written}
use Rattle.rel_grammar.specs.Answers.{IsTreeOf}
use Rattle.rel_print.specs.Bare.{ReadsAs}
use Rattle.rel_print.proofs.Rewriting.{full, short, untag, piece_kinds, cost}
use Rattle.rel_print.proofs.Rereading.{RWhole, as_whole, r_collection}
use Rattle.rel_print.proofs.PrintedReads.{tagged_marks, untag_tags, raw_pieces, printed_reads}
use Rattle.rel_print.proofs.Shortness.{fits}

pub no_longer : (source text : List ℕ) (tree : Plain) → IsTreeOf source tree → text ≡ (written tree blank_page).text → length text ≤ length source
no_longer source text tree h is =
    let q = h.question in
    let r : RWhole q = as_whole q (r_collection q) in
    let raw = piece_kinds h.lexed.pieces in
    let untagged : map untag (full r.cut) ≡ raw = ap (map untag) (r.whole 0 ∙ tagged_marks source tree h) ∙ untag_tags false raw (raw_pieces h.lexed.pieces) in
    let small : cost last.Other (map untag (short r.cut)) ≤ length source = fits source h.lexed.pieces r.cut h.lexed.lexes h.lexed.good untagged in
    let size : length text ≡ length (written (question_tree q) blank_page).text = ap length is ∙ ap (λ t. length (written t blank_page).text) h.tree_is in
    omega (arith, size, (r.costs blank_page).1, small)

pub reads_back : (source text : List ℕ) (tree : Plain) → IsTreeOf source tree → text ≡ (written tree blank_page).text → ReadsAs text tree
reads_back source text tree h is =
    let small : length text ≤ length source = no_longer source text tree h is in
    let short : length source ≤ 65536 = h.lexed.short in
    printed_reads source text tree h is (omega arith)
