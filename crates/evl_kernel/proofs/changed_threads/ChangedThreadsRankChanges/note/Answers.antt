use Rattle.std.proofs.Common.{List, slice_set, ap, ◌/◌, ◌%◌, ◌∙◌}
use Rattle.evl_bitmap.specs.NumberSet.{NumberSet, insert}
use Rattle.evl_kernel.specs.state.ChangedThreads.{is_noted}
use Rattle.evl_kernel.proofs.state.ChangedLaws.{noted-inserted}
use Rattle.evl_kernel.proofs.changed_threads.ChangedThreadsRankChanges.note.Goals as goal

pub returns-then-from-lt-MAX_THREADS : goal.returns-then-from-lt-MAX_THREADS
returns-then-from-lt-MAX_THREADS c =
    let words = c.args.self.now in let thread = c.args.thread.0 in let w = thread / 32 in
    record {
      noted = λ t.
          ap (λ (l : List NumberSet). is_noted l t)
          (c.set_places.ensures.set ∙ ap (λ (s : NumberSet). slice_set words w s) (c.insert.ensures.added ∙ ap (λ (s : NumberSet). insert s (thread % 32)) c.places-noted.ensures.places))
          ∙ noted-inserted words thread t c.places-noted.ensures.within;
    }
