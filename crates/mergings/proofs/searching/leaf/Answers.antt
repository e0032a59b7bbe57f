use Rattle.std.proofs.Common.{◌≡◌, [], ◌∷◌, ◌++◌, Contains, length, map, take, vec_items, sym, ap, subst, ◌∙◌}
use Rattle.std.proofs.lemmas.Bool.{both_ways}
use Rattle.std.proofs.lemmas.List.{map-append}
use Rattle.std.proofs.lemmas.List.Elements.{Contains-push}
use Rattle.pair_colours.specs.Naming.{rank_of}
use Rattle.colour_wl.specs.GrowthStrings.{IsGrowth}
use Rattle.mergings.specs.Searches.{IsWanted, IsSearched}
use Rattle.mergings.proofs.HeadLemmas.{blocks_sound}
use Rattle.mergings.proofs.Leaves.{leaf_fuses, leaf_is}
use Rattle.mergings.proofs.SearchLemmas.{searched_push}
use Rattle.mergings.proofs.searching.leaf.Goals as goal

pub returns-then-not-are_sound-clause-has : goal.returns-then-not-are_sound-clause-has
returns-then-not-are_sound-clause-has c = λ _. record {
  has = λ a w b. absurd (both_ways _ c.if-not-are_sound.true (c.are_sound.ensures.1 (blocks_sound c.args.k.now c.rank-rank.ensures.configuration a c.args.heads.now c.args.covered w.fusion c.requires.heads c.requires.covered b)));
}

pub returns-then-not-begins_with-clause-has : goal.returns-then-not-begins_with-clause-has
returns-then-not-begins_with-clause-has c = λ _.
    let K = c.args.k.now in
    let string = c.in_ok-string.string.items in
    let growth : IsGrowth (rank_of K) string = subst (λ n. IsGrowth n string) c.rank-rank.ensures.value c.in_ok-string.ensures.growth in
    record {
      has = λ a w b.
          let is : a ≡ string = leaf_is K c.rank-rank.ensures.configuration c.args.heads.now c.args.covered string c.requires.heads c.requires.covered growth c.in_ok-string.ensures.same a w.fusion.growth b in
          absurd (both_ways _ c.if-not-begins_with.true (c.begins_with.ensures.1 (ap (take (length c.args.prefix.now)) (c.deref.ensures.value ∙ sym is) ∙ w.begins)));
    }

pub returns-clause-searched : goal.returns-clause-searched
returns-clause-searched c =
    let K = c.args.k.now in
    let prefix = c.args.prefix.now in
    let string = c.in_ok-string.string.items in
    let old = map vec_items c.args.found.now.items in
    let growth : IsGrowth (rank_of K) string = subst (λ n. IsGrowth n string) c.rank-rank.ensures.value c.in_ok-string.ensures.growth in
    let begins : take (length prefix) string ≡ prefix = subst (λ s. take (length prefix) s ≡ prefix) c.deref.ensures.value (c.begins_with.ensures.0 c.if-not-begins_with.false) in
    let fusion = leaf_fuses K c.rank-rank.ensures.configuration c.args.heads.now c.args.covered string c.requires.heads c.requires.covered growth c.in_ok-string.ensures.same c.requires.constant (c.are_sound.ensures.0 c.if-not-are_sound.false) in
    let wanted : IsWanted K prefix string = record { fusion = fusion; begins = begins } in
    subst (IsSearched K prefix old) (sym (ap (map vec_items) c.in_ok-push.ensures.items ∙ map-append vec_items c.args.found.now.items (c.in_ok-string.string ∷ []))) (searched_push K prefix string old wanted)

pub returns-clause-has : goal.returns-clause-has
returns-clause-has c = λ _.
    let K = c.args.k.now in
    let string = c.in_ok-string.string.items in
    let old = map vec_items c.args.found.now.items in
    let growth : IsGrowth (rank_of K) string = subst (λ n. IsGrowth n string) c.rank-rank.ensures.value c.in_ok-string.ensures.growth in
    let new : map vec_items c.push.new.self.items ≡ old ++ string ∷ [] = ap (map vec_items) c.in_ok-push.ensures.items ∙ map-append vec_items c.args.found.now.items (c.in_ok-string.string ∷ []) in
    record {
      has = λ a w b.
          let is : a ≡ string = leaf_is K c.rank-rank.ensures.configuration c.args.heads.now c.args.covered string c.requires.heads c.requires.covered growth c.in_ok-string.ensures.same a w.fusion.growth b in
          subst (λ all. Contains all a) (sym new) (subst (Contains (old ++ string ∷ [])) (sym is) (Contains-push old string));
    }
