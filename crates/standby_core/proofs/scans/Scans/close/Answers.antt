use Rattle.std.proofs.Common.{◌∙◌, is_some, sym, ap}
use Rattle.standby_core.proofs.Paged.{stands_there}
use Rattle.standby_core.proofs.Places.{none_found, scan_there, without_none, without_there}
use Rattle.standby_core.proofs.scans.Scans.close.Goals as goal

pub returns-in_default-clause-answer : goal.returns-in_default-clause-answer
returns-in_default-clause-answer c =
    sym (ap is_some (none_found c.args.id 0 c.args.self.now.open.items (sym c.in_default.ensures.first)))

pub returns-in_default-clause-open : goal.returns-in_default-clause-open
returns-in_default-clause-open c =
    let scans = c.args.self.now.open.items in
    sym (without_none c.args.id scans (none_found c.args.id 0 scans (sym c.in_default.ensures.first)))

pub returns-clause-answer : goal.returns-clause-answer
returns-clause-answer c =
    let scans = c.args.self.now.open.items in
    let stands = stands_there c.args.id scans c.in-Some.place c.in-Some.ensures.first in
    sym (ap is_some (scan_there c.args.id scans c.in-Some.place c.remove.result stands))

pub returns-clause-open : goal.returns-clause-open
returns-clause-open c =
    let scans = c.args.self.now.open.items in
    c.remove.ensures.items
    ∙ sym (without_there c.args.id scans c.in-Some.place (stands_there c.args.id scans c.in-Some.place c.in-Some.ensures.first))
