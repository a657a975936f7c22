use Rattle.std.proofs.Common.{◌≡◌, List, ℕ, ◌++◌, ap, ◌∙◌}
use Rattle.standby_core.specs.View.{standby}
use Rattle.session_model.specs.NodeSteps.{opening_reply}
use Rattle.session_model.specs.Texts.{reply_text}
use Rattle.standby_session.proofs.Scanning.{table_cut, table_read}
use Rattle.standby_session.proofs.scan.scan_table.Goals as goal

pub returns-in-Err-write_text-clause-told : goal.returns-in-Err-write_text-clause-told
returns-in-Err-write_text-clause-told g c =
    let reply = reply_text (opening_reply c.in-Ok.opened) in
    let says : c.as_slice.result.now ≡ reply =
    c.as_slice.ensures.value ∙ c.in-Ok-push_opened.ensures ∙ ap (λ (t : List ℕ). t ++ reply) c.new-text.ensures.items in
    table_cut c.args.table.now (standby c.args.node.now) (standby c.open_scan.new.self) c.in-Ok.opened c.as_slice.result.now _ _
    c.in-Err-write_text.fault c.in-Ok.ensures.opens says c.in-Err-write_text.ensures.told

pub returns-clause-told : goal.returns-clause-told
returns-clause-told g c =
    let reply = reply_text (opening_reply c.in-Ok.opened) in
    let says : c.as_slice.result.now ≡ reply =
    c.as_slice.ensures.value ∙ c.in-Ok-push_opened.ensures ∙ ap (λ (t : List ℕ). t ++ reply) c.new-text.ensures.items in
    table_read c.args.table.now (standby c.args.node.now) (standby c.open_scan.new.self) c.in-Ok.opened c.as_slice.result.now _ _ _
    c.write_opened.result c.in-Ok.ensures.opens says c.in-Ok-write_text.ensures.told c.write_opened.ensures.no_archive c.write_opened.ensures.told
