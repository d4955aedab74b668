-- `freelist::sound::survey` meets its contract. The answers of `surveyed`, in the order of its tests.
-- Assumes nothing.
use mathlib.Core.Path.{◌≡◌, refl, sym, ◌∙◌}
use Rattle.std.proofs.Common.{Some, None, rules}
use native.Mathlib.Omega.{arith}
use Rattle.records.proofs.Facts.{head_facts}
use Rattle.freelist.proofs.Aparts.{ranged_ends}
use Rattle.freelist.proofs.Surveys.{walked_ranged, survey_head, survey_mark, survey_open, survey_shared, survey_closed}
use Rattle.freelist.proofs.sound.survey.Goals as goal

pub returns-then-not-head_sound : goal.returns-then-not-head_sound
returns-then-not-head_sound c = sym (survey_head _ _ _ (sym c.head_sound.ensures ∙ c.if-not-head_sound.true))

pub returns-then-from-ne-END_MARK : goal.returns-then-from-ne-END_MARK
returns-then-from-ne-END_MARK c = sym (survey_mark _ _ _ (sym c.head_sound.ensures ∙ c.if-not-head_sound.false) (λ e. c.if-from-ne-END_MARK.true (c.from.ensures.sized ∙ e)))

pub free_run-requires : goal.free_run-requires
free_run-requires c = omega (arith, head_facts _ _ _ (sym c.head_sound.ensures ∙ c.if-not-head_sound.false))

pub returns-in_err-count : goal.returns-in_err-count
returns-in_err-count c =
    let e : c.free_run.result ≡ None = search rules in
    let w = rw e at c.free_run.ensures in
    search (rules, survey_open _ _ _ (sym c.head_sound.ensures ∙ c.if-not-head_sound.false) (sym c.from.ensures.sized ∙ c.if-from-ne-END_MARK.false) _ c.first-head.ensures _ _ w.2 w.3)

pub new-requires : goal.new-requires
new-requires c =
    let s = c.args.shape in
    let e : c.free_run.result ≡ Some c.in_ok-count.count = search rules in
    ranged_ends c.args.header.allocated _ _ (omega (arith, head_facts _ _ _ (sym c.head_sound.ensures ∙ c.if-not-head_sound.false))) (walked_ranged _ _ s.data_offset _ _ _ s.policy (rw e at c.free_run.ensures))

pub apart_run-requires : goal.apart_run-requires
apart_run-requires c =
    let s = c.args.shape in
    let e : c.free_run.result ≡ Some c.in_ok-count.count = search rules in
    rw c.new.ensures (walked_ranged _ _ s.data_offset _ _ _ s.policy (rw e at c.free_run.ensures))

pub returns-then-not-apart_run : goal.returns-then-not-apart_run
returns-then-not-apart_run c =
    let e : c.free_run.result ≡ Some c.in_ok-count.count = search rules in
    sym (survey_shared _ _ _ (sym c.head_sound.ensures ∙ c.if-not-head_sound.false) (sym c.from.ensures.sized ∙ c.if-from-ne-END_MARK.false) _ c.first-head.ensures _ _ (rw e at c.free_run.ensures) (sym (rw c.new.ensures at c.apart_run.ensures) ∙ c.if-not-apart_run.true))

pub returns : goal.returns
returns c =
    let e : c.free_run.result ≡ Some c.in_ok-count.count = search rules in
    sym (survey_closed _ _ _ (sym c.head_sound.ensures ∙ c.if-not-head_sound.false) (sym c.from.ensures.sized ∙ c.if-from-ne-END_MARK.false) _ c.first-head.ensures _ _ (rw e at c.free_run.ensures) refl (sym (rw c.new.ensures at c.apart_run.ensures) ∙ c.if-not-apart_run.false))
