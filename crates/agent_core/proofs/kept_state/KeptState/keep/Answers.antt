use Rattle.std.proofs.Common.{◌≡◌, false, List, map, ap, sym, subst, ◌∙◌, ◌⊎◌, inl, inr, Result, Ok, Err}
use Rattle.std.specs.Prelude.{OnErr, OnOk, codes}
use Rattle.std.specs.List.{filter_map}
use Rattle.std.specs.List.Sorted.{IsStrictlyIncreasing}
use Rattle.std.specs.Str.{bytes_eq}
use Rattle.std.proofs.lemmas.Bool.{not-false, not-true}
use Rattle.std.proofs.lemmas.Slice.Eq.{bytes_eq-Decides}
use Rattle.fix_site.specs.declared.site.Site.{Site}
use Rattle.fix_site.specs.Sites.{IsSite}
use Rattle.agent_attempt.specs.ActionContents.{actions_of, as_action}
use Rattle.agent_core.specs.declared.kept_state.KeptState.{KeptState}
use Rattle.agent_state.specs.Changes.{with_site}
use Rattle.agent_core.specs.Inside.{IsSoundKept, state_of}
use Rattle.agent_state.specs.Lookups.{TalliesStand}
use Rattle.agent_state.proofs.SiteActions.{action_id, actions_of_other, actions_of_own, ids_increase}
use Rattle.agent_core.proofs.Sounding.{sound_gathered}
use Rattle.agent_state.proofs.TallyLists.{all_stand}
use Rattle.agent_core.proofs.kept_state.KeptState.keep.Goals as goal

either : {T E P Q : Type 0} (r : Result T E) → OnOk r P → OnErr r Q → P ⊎ Q
either (Ok x) p q = inl p
either (Err e) p q = inr q

-- another site than that of the actions
with_other : (a : KeptState) (site : Site) (sites : List Site) → IsSite site → bytes_eq site.name (codes "actionsite") ≡ false → (sites ≡ with_site site a.sites) ⊎ (sites ≡ a.sites) → IsSoundKept a
    → IsSoundKept (record a { sites = sites })
with_other a site sites good other (inl e) is =
    subst (λ (l : List Site). IsSoundKept (record a { sites = l })) (sym e) (record {
      sound = sound_gathered site (state_of a) good is.sound;
      tallies = subst (λ l. TalliesStand a.tallies l a.histories) (sym (actions_of_other site a.sites other)) is.tallies;
    })
with_other a site sites good other (inr e) is = subst (λ (l : List Site). IsSoundKept (record a { sites = l })) (sym e) is

pub returns-then-ne-clause-sound : goal.returns-then-ne-clause-sound
returns-then-ne-clause-sound c =
    let a : KeptState = c.args.self.now in
    let site : Site = c.in_ok-read.read in
    let other : bytes_eq site.name (codes "actionsite") ≡ false =
    (λ j. bytes_eq (c.in_ok-read.ensures j).name (codes "actionsite")) ∙ ap (λ n. bytes_eq n (codes "actionsite")) (sym c.as_str.ensures) ∙ not-true _ (sym c.ne.ensures ∙ c.if-ne.true) in
    with_other a site c.put.new.self (subst IsSite (sym c.in_ok-read.ensures) c.requires.site) other (either c.put.result c.put.ensures.ok c.put.ensures.err) c.requires.sound

pub of-requires-clause-ascending : goal.of-requires-clause-ascending
of-requires-clause-ascending c =
    subst (λ l. IsStrictlyIncreasing (map action_id (filter_map as_action l))) (sym c.blocks-2.ensures.blocks) (ids_increase c.in_ok-read.read c.blocks-2.ensures.good)

pub of-requires-clause-stand : goal.of-requires-clause-stand
of-requires-clause-stand c =
    let a : KeptState = c.args.self.now in
    all_stand a.tallies (actions_of a.sites) a.histories c.requires.sound.tallies

pub returns-clause-sound : goal.returns-clause-sound
returns-clause-sound c =
    let a : KeptState = c.args.self.now in
    let site : Site = c.in_ok-read.read in
    let own : site.name ≡ codes "actionsite" =
    (λ j. (c.in_ok-read.ensures j).name) ∙ sym c.as_str.ensures ∙ (bytes_eq-Decides c.as_str.result.now (codes "actionsite")).0 (not-false _ (sym c.ne.ensures ∙ c.if-ne.false)) in
    let stand = subst (λ l. TalliesStand c.in_ok-tallies.tallies (filter_map as_action l) a.histories) c.blocks-2.ensures.blocks c.in_ok-tallies.ensures in
    subst (λ (l : List Site). IsSoundKept (record a { sites = l; tallies = c.in_ok-tallies.tallies })) (sym c.in_ok-put.ensures.ok) (record {
      sound = sound_gathered site (state_of a) c.blocks-2.ensures.good c.requires.sound.sound;
      tallies = subst (λ l. TalliesStand c.in_ok-tallies.tallies l a.histories) (sym (actions_of_own site a.sites own)) stand;
    })
