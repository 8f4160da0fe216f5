-- The status is set, then the callback. Assumes nothing.
use Rattle.model.specs.Requests.{ask_suspend}
use Rattle.memory.proofs.Readiness.{long_turned, then_callback}
use Rattle.counts.proofs.Turning.{turned_on}
use Rattle.request_suspend.proofs.ask_suspend.Goals as goal

pub returns : goal.returns
unfolding ask_suspend
returns c =
    let turned = c.set_status.ensures in
    record {
      is =
          λ h l.
          let set = turned.is h l in
          rw (c.set_callback.ensures _ (long_turned _ _ _ _ _ h.ready set), set, c.ask.ensures, c.number-suspend.ensures);
      stays = then_callback _ _ _ _ _ _ _ _ (turned_on turned) c.set_callback.ensures;
    }
