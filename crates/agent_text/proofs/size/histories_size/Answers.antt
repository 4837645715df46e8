use Rattle.std.proofs.Common.{◌+◌, ◌-◌, ◌≤◌, List, drop, take, length, map, sym, ap, ◌∙◌, arith}
use Rattle.std.specs.Prelude.{sum_by}
use Rattle.std.proofs.lemmas.List.{take_all}
use Rattle.agent_text.specs.declared.history.History.{History}
use Rattle.agent_text.specs.Histories.{PlainHistory, shown_history}
use Rattle.agent_text.specs.HistoryLines.{history_text}
use Rattle.agent_text.specs.MadeTexts.{PlainMade}
use Rattle.agent_text.specs.MostBytes.{history_bytes}
use Rattle.agent_text.proofs.MadeLemmas.{made_most, rest_shown, sum_shown}
use Rattle.agent_text.proofs.size.histories_size.Goals as goal

pub returns : goal.returns
returns c =
    let items : List History = c.args.histories.list.now in
    let hs : List PlainHistory = map shown_history items in
    let made : PlainMade = c.args.histories.made.now in
    let rest : List History = take (length items - c.count.result) (drop c.count.result items) in
    let all : length rest ≤ c.loop-history.history-index = omega (arith, c.loop-history-test.false) in
    let one = λ (h : History). history_bytes (shown_history h) in
    c.loop-history.invariant ∙ ap (λ l. made.most + sum_by one l) (take_all c.loop-history.history-index rest all) ∙ ap (λ n. made.most + n) (sum_shown shown_history history_bytes rest)
    ∙ ap (λ l. made.most + sum_by history_bytes l) (rest_shown shown_history items c.count.result ∙ ap (λ n. drop n hs) c.count.ensures)
    ∙ sym (made_most history_text history_bytes hs made c.requires.made)
