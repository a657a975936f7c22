use Rattle.commit_log.proofs.Packing.{status-blank}
use Rattle.commit_log.proofs.page.StatusPage.blank.Goals as goal

pub returns-clause-statuses : goal.returns-clause-statuses
returns-clause-statuses c = λ n. rw c.in_ok-bytes.ensures.ok (status-blank 8192 n)
