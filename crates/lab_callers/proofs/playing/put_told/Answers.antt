use Rattle.std.proofs.Common.{◌≡◌, ◌++◌, ◌∙◌, List, ℕ, ap, codes, refl, string_bytes}
use Rattle.std.specs.Prelude.{Option, is_some}
use Rattle.lab_callers.specs.Crews.{holder_of}
use Rattle.lab_callers.specs.Reports.{ReportState}
use Rattle.lab_callers.specs.Shown.{shown_text}
use Rattle.lab_callers.proofs.PlayLaws.{told_behind}
use Rattle.evl_scenario.specs.Lines.{line_feed, play_lines}
use Rattle.lab_callers.proofs.playing.put_told.Goals as goal

pub returns-clause-told : goal.returns-clause-told
returns-clause-told g c =
    let view = c.in_ok-view.view in
    let report = c.report.inside in
    let before = string_bytes report.text in
    let answer = string_bytes c.args.told.now.answer in
    let after = c.look.new.self in
    let has = holder_of (is_some after.held) after.holder in
    let kept = c.in_ok-put_shown.ensures.same in
    let is = c.report-2.view_is in
    let behind = λ (h : Option ℕ). shown_text report.staxes report.passes h view c.args.told.now.shows in
    rw (← c.report.view_is) (
      codes " -> " ++ (answer ++ (behind has ++ (line_feed ++ play_lines view.plays.items))),
      record {
        question = c.question-asked.result;
        view = view;
        mutex = c.question-asked.ensures.mutex;
        thread = c.question-asked.ensures.thread;
        counted = c.question-asked.ensures.plays;
        looked = c.in_ok-view.ensures.looked;
        holdings = ap (λ (r : ReportState). r.holdings) is ∙ kept.1;
        staxes = ap (λ (r : ReportState). r.staxes) is ∙ kept.2;
        plays = refl;
        entered = ap (λ (r : ReportState). r.entered) is ∙ c.in_ok-put_shown.ensures.entered ∙ c.in_ok-push.ensures.items;
        text_is = refl;
      },
      told_behind before (codes " -> ") answer (behind has) line_feed (play_lines view.plays.items) (string_bytes c.write.new.self) c.put_shown.new.report.text (string_bytes c.push_str.new.self) (string_bytes c.put_plays.new.text)
          (c.in_ok-write.ensures.bytes ∙ ap (λ (l : List ℕ). before ++ (codes " -> " ++ l)) c.as_str-answer.ensures.value)
          (c.in_ok-put_shown.ensures.shown ∙ ap (λ (h : Option ℕ). string_bytes c.write.new.self ++ behind h) c.holder.ensures)
          (c.in_ok-push_str.ensures.bytes ∙ ap (λ (r : ReportState). r.text ++ line_feed) is)
          (c.in_ok-put_plays.ensures ∙ ap (λ (ps : _). string_bytes c.push_str.new.self ++ play_lines ps) c.as_slice.ensures.value),
    )
