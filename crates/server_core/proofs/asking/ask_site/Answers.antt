use Rattle.std.proofs.Common.{rules, Some, ◌<◌, ◌≡◌, true, ◌∙◌, ap, sym, codes, arith}
use Rattle.std.specs.Prelude.{bytes_eq}
use Rattle.server_core.specs.AcceptedTables.{site_at}
use Rattle.server_core.proofs.Deciding.{actionsite_told, none_other}
use Rattle.server_core.proofs.asking.ask_site.Goals as goal

pub returns-clause-learns : goal.returns-clause-learns
returns-clause-learns g c = record {
  is = λ rows told.
      let a = c.in-Some-Site in
      let newer : c.args.version < a.kept = search (arith, c.if-kept-version.false) in
      let named : bytes_eq a.name (codes "actionsite") ≡ true = ap (λ n. bytes_eq n (codes "actionsite")) (sym c.as_str.ensures) ∙ none_other c.ne.result (bytes_eq c.as_str.result.now (codes "actionsite")) c.ne.ensures c.if-ne.false in
      actionsite_told rows c.as_slice.result.now c.args.name.now a.name a.text c.in_ok-actionsite_text.field-0 a.kept c.args.version c.in_ok-name.field-0
      (c.in_ok-name.ensures.learns.is rows told ∙ ap (λ n. site_at n rows) c.in_ok-copy.ensures) (a.is ∙ ap Some a.field-0-is) newer named
      (c.as_slice.ensures ∙ c.in_ok-actions.ensures.is rows (c.in_ok-name.ensures.learns.only.rows ∙ told)) c.in_ok-actionsite_text.ensures;
  only = search rules;
}
