use Rattle.std.proofs.Common.{IfSome, ◌≡◌, ◌⊎◌, ℕ, inl, inr, map, subst, sym, ap, ◌∙◌, refl}
use Rattle.std.specs.Prelude.{string_bytes}
use Rattle.outside.specs.Faults.{Rose}
use Rattle.wal_archive.specs.ArchiveLog.{archived_bytes}
use Rattle.standby_model.specs.Archived.{segment_size}
use Rattle.standby_session.specs.declared.fault.SessionFault.TheVariants as fault
use Rattle.run_model.specs.Leaves.{RejectionLeaves}
use Rattle.run_model.specs.Starts.{BadWords, Rejects, Scans, Holds, Starts, command_of}
use Rattle.standby_cli.specs.declared.begin.Start.{Start as Begun}
use Rattle.standby_cli.specs.Meaning.{rejection_meaning, start_meaning}
use Rattle.standby_cli.specs.Watched.{watched}
use Rattle.standby_cli.proofs.Program.{any_rejection, bad_words, bad_words_end, early_end, early_leaves, held_as, legal_clause, not_answered, not_rejected, not_rejecting, rejected_leaves, rejected_so, rejecting, run_begun, run_early, same_rejection, scan_all}
use Rattle.standby_cli.proofs.Legal.{holds_no_rejection, scans_no_rejection}
use Rattle.standby_cli.proofs.top.standby_main.Goals as goal

pub returns-in-Err-Failed-clause-run : goal.returns-in-Err-Failed-clause-run
returns-in-Err-Failed-clause-run g c =
    let words = map string_bytes c.args.words.now in
    let base = g.B.BaseDir.files c.args.base.now in
    let files = g.A.Archive.files c.args.archive.now in
    let bytes = archived_bytes files segment_size in
    let source = g.S.Source.rest c.args.source.now in
    let status = c.write_fault.result in
    let before = g.O.Sink.written c.args.out.now in
    let now = g.O.Sink.written c.write_fault.new.out in
    let f = g.O.Sink.fault_count c.args.out.now in
    let h = g.O.Sink.fault_count c.write_fault.new.out in
    let s = g.O.Sink.short_count c.args.out.now in
    let u = g.O.Sink.short_count c.write_fault.new.out in
    let rose = Rose (g.S.Source.fault_count c.args.source.now) (g.S.Source.fault_count c.args.source.now) in
    let o = watched f h s u rose before now in
    run_early words base bytes source status o fault.Archive tt c.write_fault.ensures.status c.write_fault.ensures.written

pub returns-in-Err-Failed-clause-legal : goal.returns-in-Err-Failed-clause-legal
returns-in-Err-Failed-clause-legal g c =
    let words = map string_bytes c.args.words.now in
    let base = g.B.BaseDir.files c.args.base.now in
    let files = g.A.Archive.files c.args.archive.now in
    let bytes = archived_bytes files segment_size in
    let source = g.S.Source.rest c.args.source.now in
    let status = c.write_fault.result in
    let before = g.O.Sink.written c.args.out.now in
    let now = g.O.Sink.written c.write_fault.new.out in
    let f = g.O.Sink.fault_count c.args.out.now in
    let h = g.O.Sink.fault_count c.write_fault.new.out in
    let s = g.O.Sink.short_count c.args.out.now in
    let u = g.O.Sink.short_count c.write_fault.new.out in
    let rose = Rose (g.S.Source.fault_count c.args.source.now) (g.S.Source.fault_count c.args.source.now) in
    let o = watched f h s u rose before now in
    legal_clause words base c.node_simulates.ensures c.life_begins_so.ensures files source status o (g.met.A.Archive.bytes c.args.archive.now)
    (run_early words base bytes source status o fault.Archive tt c.write_fault.ensures.status c.write_fault.ensures.written)

pub returns-in-Err-Failed-clause-rejects : goal.returns-in-Err-Failed-clause-rejects
returns-in-Err-Failed-clause-rejects g c =
    let words = map string_bytes c.args.words.now in
    let base = g.B.BaseDir.files c.args.base.now in
    let status = c.write_fault.result in
    let before = g.O.Sink.written c.args.out.now in
    let now = g.O.Sink.written c.write_fault.new.out in
    let f = g.O.Sink.fault_count c.args.out.now in
    let h = g.O.Sink.fault_count c.write_fault.new.out in
    let s = g.O.Sink.short_count c.args.out.now in
    let u = g.O.Sink.short_count c.write_fault.new.out in
    any_rejection words base (λ r. RejectionLeaves r status (watched f h s u ⊥ before now)) (early_leaves status (watched f h s u ⊥ before now) fault.Archive tt c.write_fault.ensures.status c.write_fault.ensures.written)

pub returns-in-Err-Failed-clause-unasked : goal.returns-in-Err-Failed-clause-unasked
returns-in-Err-Failed-clause-unasked g c =
    let words = map string_bytes c.args.words.now in
    let base = g.B.BaseDir.files c.args.base.now in
    any_rejection words base (λ r. (g.A.Archive.fault_count c.args.archive.now ≡ g.A.Archive.fault_count c.args.archive.now) × (g.S.Source.fault_count c.args.source.now ≡ g.S.Source.fault_count c.args.source.now)) (λ r. (refl, refl))

pub returns-in-Err-Failed-clause-rejected : goal.returns-in-Err-Failed-clause-rejected
returns-in-Err-Failed-clause-rejected g c =
    let status = c.write_fault.result in
    λ is. absurd (not_rejected status (early_end fault.Archive tt status c.write_fault.ensures.status) is)

pub returns-in-Err-Failed-clause-words : goal.returns-in-Err-Failed-clause-words
returns-in-Err-Failed-clause-words g c =
    let status = c.write_fault.result in
    λ two. absurd (not_rejected status (early_end fault.Archive tt status c.write_fault.ensures.status) (inl two))

pub returns-in-Err-Failed-clause-other_words : goal.returns-in-Err-Failed-clause-other_words
returns-in-Err-Failed-clause-other_words g c =
    λ none. absurd (c.in-Err-Failed.ensures.at_once none)

pub returns-in-Err-Memory-clause-run : goal.returns-in-Err-Memory-clause-run
returns-in-Err-Memory-clause-run g c =
    let words = map string_bytes c.args.words.now in
    let base = g.B.BaseDir.files c.args.base.now in
    let files = g.A.Archive.files c.args.archive.now in
    let bytes = archived_bytes files segment_size in
    let source = g.S.Source.rest c.args.source.now in
    let status = c.write_fault-in-Err-Memory.result in
    let before = g.O.Sink.written c.args.out.now in
    let now = g.O.Sink.written c.write_fault-in-Err-Memory.new.out in
    let f = g.O.Sink.fault_count c.args.out.now in
    let h = g.O.Sink.fault_count c.write_fault-in-Err-Memory.new.out in
    let s = g.O.Sink.short_count c.args.out.now in
    let u = g.O.Sink.short_count c.write_fault-in-Err-Memory.new.out in
    let rose = Rose (g.S.Source.fault_count c.args.source.now) (g.S.Source.fault_count c.args.source.now) in
    let o = watched f h s u rose before now in
    run_early words base bytes source status o fault.Memory tt c.write_fault-in-Err-Memory.ensures.status c.write_fault-in-Err-Memory.ensures.written

pub returns-in-Err-Memory-clause-legal : goal.returns-in-Err-Memory-clause-legal
returns-in-Err-Memory-clause-legal g c =
    let words = map string_bytes c.args.words.now in
    let base = g.B.BaseDir.files c.args.base.now in
    let files = g.A.Archive.files c.args.archive.now in
    let bytes = archived_bytes files segment_size in
    let source = g.S.Source.rest c.args.source.now in
    let status = c.write_fault-in-Err-Memory.result in
    let before = g.O.Sink.written c.args.out.now in
    let now = g.O.Sink.written c.write_fault-in-Err-Memory.new.out in
    let f = g.O.Sink.fault_count c.args.out.now in
    let h = g.O.Sink.fault_count c.write_fault-in-Err-Memory.new.out in
    let s = g.O.Sink.short_count c.args.out.now in
    let u = g.O.Sink.short_count c.write_fault-in-Err-Memory.new.out in
    let rose = Rose (g.S.Source.fault_count c.args.source.now) (g.S.Source.fault_count c.args.source.now) in
    let o = watched f h s u rose before now in
    legal_clause words base c.node_simulates.ensures c.life_begins_so.ensures files source status o (g.met.A.Archive.bytes c.args.archive.now)
    (run_early words base bytes source status o fault.Memory tt c.write_fault-in-Err-Memory.ensures.status c.write_fault-in-Err-Memory.ensures.written)

pub returns-in-Err-Memory-clause-rejects : goal.returns-in-Err-Memory-clause-rejects
returns-in-Err-Memory-clause-rejects g c =
    let words = map string_bytes c.args.words.now in
    let base = g.B.BaseDir.files c.args.base.now in
    let status = c.write_fault-in-Err-Memory.result in
    let before = g.O.Sink.written c.args.out.now in
    let now = g.O.Sink.written c.write_fault-in-Err-Memory.new.out in
    let f = g.O.Sink.fault_count c.args.out.now in
    let h = g.O.Sink.fault_count c.write_fault-in-Err-Memory.new.out in
    let s = g.O.Sink.short_count c.args.out.now in
    let u = g.O.Sink.short_count c.write_fault-in-Err-Memory.new.out in
    any_rejection words base (λ r. RejectionLeaves r status (watched f h s u ⊥ before now)) (early_leaves status (watched f h s u ⊥ before now) fault.Memory tt c.write_fault-in-Err-Memory.ensures.status c.write_fault-in-Err-Memory.ensures.written)

pub returns-in-Err-Memory-clause-unasked : goal.returns-in-Err-Memory-clause-unasked
returns-in-Err-Memory-clause-unasked g c =
    let words = map string_bytes c.args.words.now in
    let base = g.B.BaseDir.files c.args.base.now in
    any_rejection words base (λ r. (g.A.Archive.fault_count c.args.archive.now ≡ g.A.Archive.fault_count c.args.archive.now) × (g.S.Source.fault_count c.args.source.now ≡ g.S.Source.fault_count c.args.source.now)) (λ r. (refl, refl))

pub returns-in-Err-Memory-clause-rejected : goal.returns-in-Err-Memory-clause-rejected
returns-in-Err-Memory-clause-rejected g c =
    let status = c.write_fault-in-Err-Memory.result in
    λ is. absurd (not_rejected status (early_end fault.Memory tt status c.write_fault-in-Err-Memory.ensures.status) is)

pub returns-in-Err-Memory-clause-words : goal.returns-in-Err-Memory-clause-words
returns-in-Err-Memory-clause-words g c =
    let status = c.write_fault-in-Err-Memory.result in
    λ two. absurd (not_rejected status (early_end fault.Memory tt status c.write_fault-in-Err-Memory.ensures.status) (inl two))

pub returns-in-Err-Memory-clause-other_words : goal.returns-in-Err-Memory-clause-other_words
returns-in-Err-Memory-clause-other_words g c =
    λ none. absurd (c.in-Err-Memory.ensures.at_once none)

pub returns-in-Ok-Rejected-clause-run : goal.returns-in-Ok-Rejected-clause-run
returns-in-Ok-Rejected-clause-run g c =
    let words = map string_bytes c.args.words.now in
    let base = g.B.BaseDir.files c.args.base.now in
    let files = g.A.Archive.files c.args.archive.now in
    let bytes = archived_bytes files segment_size in
    let source = g.S.Source.rest c.args.source.now in
    let status = c.reject.result in
    let before = g.O.Sink.written c.args.out.now in
    let now = g.O.Sink.written c.reject.new.out in
    let f = g.O.Sink.fault_count c.args.out.now in
    let h = g.O.Sink.fault_count c.reject.new.out in
    let s = g.O.Sink.short_count c.args.out.now in
    let u = g.O.Sink.short_count c.reject.new.out in
    let rose = Rose (g.S.Source.fault_count c.args.source.now) (g.S.Source.fault_count c.args.source.now) in
    let o = watched f h s u rose before now in
    let begins = subst (λ (b : Begun). IfSome base (λ described. Starts words described (start_meaning b))) c.in-Ok-Rejected.field-0-is c.in-Ok-Rejected.ensures.told in
    run_begun words base bytes source status o (Rejects (rejection_meaning c.in-Ok-Rejected.rejection)) begins (rejected_leaves words base bytes source status o (rejection_meaning c.in-Ok-Rejected.rejection))

pub returns-in-Ok-Rejected-clause-legal : goal.returns-in-Ok-Rejected-clause-legal
returns-in-Ok-Rejected-clause-legal g c =
    let words = map string_bytes c.args.words.now in
    let base = g.B.BaseDir.files c.args.base.now in
    let files = g.A.Archive.files c.args.archive.now in
    let bytes = archived_bytes files segment_size in
    let source = g.S.Source.rest c.args.source.now in
    let status = c.reject.result in
    let before = g.O.Sink.written c.args.out.now in
    let now = g.O.Sink.written c.reject.new.out in
    let f = g.O.Sink.fault_count c.args.out.now in
    let h = g.O.Sink.fault_count c.reject.new.out in
    let s = g.O.Sink.short_count c.args.out.now in
    let u = g.O.Sink.short_count c.reject.new.out in
    let rose = Rose (g.S.Source.fault_count c.args.source.now) (g.S.Source.fault_count c.args.source.now) in
    let o = watched f h s u rose before now in
    let begins = subst (λ (b : Begun). IfSome base (λ described. Starts words described (start_meaning b))) c.in-Ok-Rejected.field-0-is c.in-Ok-Rejected.ensures.told in
    legal_clause words base c.node_simulates.ensures c.life_begins_so.ensures files source status o (g.met.A.Archive.bytes c.args.archive.now)
    (run_begun words base bytes source status o (Rejects (rejection_meaning c.in-Ok-Rejected.rejection)) begins (rejected_leaves words base bytes source status o (rejection_meaning c.in-Ok-Rejected.rejection)))

pub returns-in-Ok-Rejected-clause-rejects : goal.returns-in-Ok-Rejected-clause-rejects
returns-in-Ok-Rejected-clause-rejects g c =
    let words = map string_bytes c.args.words.now in
    let base = g.B.BaseDir.files c.args.base.now in
    let status = c.reject.result in
    let before = g.O.Sink.written c.args.out.now in
    let now = g.O.Sink.written c.reject.new.out in
    let f = g.O.Sink.fault_count c.args.out.now in
    let h = g.O.Sink.fault_count c.reject.new.out in
    let s = g.O.Sink.short_count c.args.out.now in
    let u = g.O.Sink.short_count c.reject.new.out in
    let begins = subst (λ (b : Begun). IfSome base (λ described. Starts words described (start_meaning b))) c.in-Ok-Rejected.field-0-is c.in-Ok-Rejected.ensures.told in
    rejecting words base (λ r. RejectionLeaves r status (watched f h s u ⊥ before now)) (rejection_meaning c.in-Ok-Rejected.rejection) begins c.reject.ensures.leaves

pub returns-in-Ok-Rejected-clause-unasked : goal.returns-in-Ok-Rejected-clause-unasked
returns-in-Ok-Rejected-clause-unasked g c =
    let words = map string_bytes c.args.words.now in
    let base = g.B.BaseDir.files c.args.base.now in
    any_rejection words base (λ r. (g.A.Archive.fault_count c.args.archive.now ≡ g.A.Archive.fault_count c.args.archive.now) × (g.S.Source.fault_count c.args.source.now ≡ g.S.Source.fault_count c.args.source.now)) (λ r. (refl, refl))

pub returns-in-Ok-Rejected-clause-rejected : goal.returns-in-Ok-Rejected-clause-rejected
returns-in-Ok-Rejected-clause-rejected g c =
    let words = map string_bytes c.args.words.now in
    let base = g.B.BaseDir.files c.args.base.now in
    let status = c.reject.result in
    let before = g.O.Sink.written c.args.out.now in
    let now = g.O.Sink.written c.reject.new.out in
    let f = g.O.Sink.fault_count c.args.out.now in
    let h = g.O.Sink.fault_count c.reject.new.out in
    let s = g.O.Sink.short_count c.args.out.now in
    let u = g.O.Sink.short_count c.reject.new.out in
    let begins = subst (λ (b : Begun). IfSome base (λ described. Starts words described (start_meaning b))) c.in-Ok-Rejected.field-0-is c.in-Ok-Rejected.ensures.told in
    λ is. rejected_so words base (rejection_meaning c.in-Ok-Rejected.rejection) status (watched f h s u ⊥ before now) begins c.reject.ensures.leaves is

pub returns-in-Ok-Rejected-clause-words : goal.returns-in-Ok-Rejected-clause-words
returns-in-Ok-Rejected-clause-words g c =
    let status = c.reject.result in
    let before = g.O.Sink.written c.args.out.now in
    let now = g.O.Sink.written c.reject.new.out in
    let f = g.O.Sink.fault_count c.args.out.now in
    let h = g.O.Sink.fault_count c.reject.new.out in
    let s = g.O.Sink.short_count c.args.out.now in
    let u = g.O.Sink.short_count c.reject.new.out in
    λ two. let (bad, wrote) = bad_words (rejection_meaning c.in-Ok-Rejected.rejection) status (watched f h s u ⊥ before now) c.reject.ensures.leaves two in (c.in-Ok-Rejected.ensures.bad_words (ap start_meaning c.in-Ok-Rejected.field-0-is ∙ ap Rejects bad), wrote)

pub returns-in-Ok-Rejected-clause-other_words : goal.returns-in-Ok-Rejected-clause-other_words
returns-in-Ok-Rejected-clause-other_words g c =
    let status = c.reject.result in
    let before = g.O.Sink.written c.args.out.now in
    let now = g.O.Sink.written c.reject.new.out in
    let f = g.O.Sink.fault_count c.args.out.now in
    let h = g.O.Sink.fault_count c.reject.new.out in
    let s = g.O.Sink.short_count c.args.out.now in
    let u = g.O.Sink.short_count c.reject.new.out in
    λ none. bad_words_end (rejection_meaning c.in-Ok-Rejected.rejection) status (watched f h s u ⊥ before now) c.reject.ensures.leaves (same_rejection (rejection_meaning c.in-Ok-Rejected.rejection) BadWords (sym (ap start_meaning c.in-Ok-Rejected.field-0-is) ∙ c.in-Ok-Rejected.ensures.at_once none)) c.reject.ensures.no_archive

pub returns-in-Ok-Scans-clause-run : goal.returns-in-Ok-Scans-clause-run
returns-in-Ok-Scans-clause-run g c =
    let words = map string_bytes c.args.words.now in
    let base = g.B.BaseDir.files c.args.base.now in
    let files = g.A.Archive.files c.args.archive.now in
    let bytes = archived_bytes files segment_size in
    let source = g.S.Source.rest c.args.source.now in
    let status = c.scan.result in
    let before = g.O.Sink.written c.args.out.now in
    let now = g.O.Sink.written c.scan.new.out in
    let f = g.O.Sink.fault_count c.args.out.now in
    let h = g.O.Sink.fault_count c.scan.new.out in
    let s = g.O.Sink.short_count c.args.out.now in
    let u = g.O.Sink.short_count c.scan.new.out in
    let rose = Rose (g.S.Source.fault_count c.args.source.now) (g.S.Source.fault_count c.args.source.now) in
    let o = watched f h s u rose before now in
    let begins = subst (λ (b : Begun). IfSome base (λ described. Starts words described (start_meaning b))) c.in-Ok-Scans.field-0-is c.in-Ok-Scans.ensures.told in
    run_begun words base bytes source status o (Scans c.in-Ok-Scans.tables c.in-Ok-Scans.name.now) begins (scan_all bytes c.in-Ok-Scans.tables c.in-Ok-Scans.name.now status f h s u rose before now c.scan.ensures.leaves)

pub returns-in-Ok-Scans-clause-legal : goal.returns-in-Ok-Scans-clause-legal
returns-in-Ok-Scans-clause-legal g c =
    let words = map string_bytes c.args.words.now in
    let base = g.B.BaseDir.files c.args.base.now in
    let files = g.A.Archive.files c.args.archive.now in
    let bytes = archived_bytes files segment_size in
    let source = g.S.Source.rest c.args.source.now in
    let status = c.scan.result in
    let before = g.O.Sink.written c.args.out.now in
    let now = g.O.Sink.written c.scan.new.out in
    let f = g.O.Sink.fault_count c.args.out.now in
    let h = g.O.Sink.fault_count c.scan.new.out in
    let s = g.O.Sink.short_count c.args.out.now in
    let u = g.O.Sink.short_count c.scan.new.out in
    let rose = Rose (g.S.Source.fault_count c.args.source.now) (g.S.Source.fault_count c.args.source.now) in
    let o = watched f h s u rose before now in
    let begins = subst (λ (b : Begun). IfSome base (λ described. Starts words described (start_meaning b))) c.in-Ok-Scans.field-0-is c.in-Ok-Scans.ensures.told in
    legal_clause words base c.node_simulates.ensures c.life_begins_so.ensures files source status o (g.met.A.Archive.bytes c.args.archive.now)
    (run_begun words base bytes source status o (Scans c.in-Ok-Scans.tables c.in-Ok-Scans.name.now) begins (scan_all bytes c.in-Ok-Scans.tables c.in-Ok-Scans.name.now status f h s u rose before now c.scan.ensures.leaves))

pub returns-in-Ok-Scans-clause-rejects : goal.returns-in-Ok-Scans-clause-rejects
returns-in-Ok-Scans-clause-rejects g c =
    let words = map string_bytes c.args.words.now in
    let base = g.B.BaseDir.files c.args.base.now in
    let status = c.scan.result in
    let before = g.O.Sink.written c.args.out.now in
    let now = g.O.Sink.written c.scan.new.out in
    let f = g.O.Sink.fault_count c.args.out.now in
    let h = g.O.Sink.fault_count c.scan.new.out in
    let s = g.O.Sink.short_count c.args.out.now in
    let u = g.O.Sink.short_count c.scan.new.out in
    let begins = subst (λ (b : Begun). IfSome base (λ described. Starts words described (start_meaning b))) c.in-Ok-Scans.field-0-is c.in-Ok-Scans.ensures.told in
    not_rejecting words base (λ r. RejectionLeaves r status (watched f h s u ⊥ before now)) (Scans c.in-Ok-Scans.tables c.in-Ok-Scans.name.now) (scans_no_rejection c.in-Ok-Scans.tables c.in-Ok-Scans.name.now) begins

pub returns-in-Ok-Scans-clause-unasked : goal.returns-in-Ok-Scans-clause-unasked
returns-in-Ok-Scans-clause-unasked g c =
    let words = map string_bytes c.args.words.now in
    let base = g.B.BaseDir.files c.args.base.now in
    let begins = subst (λ (b : Begun). IfSome base (λ described. Starts words described (start_meaning b))) c.in-Ok-Scans.field-0-is c.in-Ok-Scans.ensures.told in
    not_rejecting words base (λ r. (g.A.Archive.fault_count c.scan.new.archive ≡ g.A.Archive.fault_count c.args.archive.now) × (g.S.Source.fault_count c.args.source.now ≡ g.S.Source.fault_count c.args.source.now)) (Scans c.in-Ok-Scans.tables c.in-Ok-Scans.name.now) (scans_no_rejection c.in-Ok-Scans.tables c.in-Ok-Scans.name.now) begins

pub returns-in-Ok-Scans-clause-rejected : goal.returns-in-Ok-Scans-clause-rejected
returns-in-Ok-Scans-clause-rejected g c =
    let status = c.scan.result in
    λ is. absurd (not_answered status c.scan.ensures.statuses is)

pub returns-in-Ok-Scans-clause-words : goal.returns-in-Ok-Scans-clause-words
returns-in-Ok-Scans-clause-words g c =
    let status = c.scan.result in
    λ two. absurd (not_answered status c.scan.ensures.statuses (inl two))

pub returns-in-Ok-Scans-clause-other_words : goal.returns-in-Ok-Scans-clause-other_words
returns-in-Ok-Scans-clause-other_words g c =
    λ none. absurd (scans_no_rejection c.in-Ok-Scans.tables c.in-Ok-Scans.name.now BadWords (sym (ap start_meaning c.in-Ok-Scans.field-0-is) ∙ c.in-Ok-Scans.ensures.at_once none))

pub returns-in-Ok-Holds-clause-run : goal.returns-in-Ok-Holds-clause-run
returns-in-Ok-Holds-clause-run g c =
    let words = map string_bytes c.args.words.now in
    let base = g.B.BaseDir.files c.args.base.now in
    let files = g.A.Archive.files c.args.archive.now in
    let bytes = archived_bytes files segment_size in
    let source = g.S.Source.rest c.args.source.now in
    let status = c.hold.result in
    let before = g.O.Sink.written c.args.out.now in
    let now = g.O.Sink.written c.hold.new.out in
    let f = g.O.Sink.fault_count c.args.out.now in
    let h = g.O.Sink.fault_count c.hold.new.out in
    let s = g.O.Sink.short_count c.args.out.now in
    let u = g.O.Sink.short_count c.hold.new.out in
    let rose = Rose (g.S.Source.fault_count c.args.source.now) (g.S.Source.fault_count c.hold.new.source) in
    let o = watched f h s u rose before now in
    let begins = subst (λ (b : Begun). IfSome base (λ described. Starts words described (start_meaning b))) c.in-Ok-Holds.field-0-is c.in-Ok-Holds.ensures.told in
    run_begun words base bytes source status o (Holds c.in-Ok-Holds.tables) begins c.hold.ensures.leaves

pub returns-in-Ok-Holds-clause-legal : goal.returns-in-Ok-Holds-clause-legal
returns-in-Ok-Holds-clause-legal g c =
    let words = map string_bytes c.args.words.now in
    let base = g.B.BaseDir.files c.args.base.now in
    let files = g.A.Archive.files c.args.archive.now in
    let bytes = archived_bytes files segment_size in
    let source = g.S.Source.rest c.args.source.now in
    let status = c.hold.result in
    let before = g.O.Sink.written c.args.out.now in
    let now = g.O.Sink.written c.hold.new.out in
    let f = g.O.Sink.fault_count c.args.out.now in
    let h = g.O.Sink.fault_count c.hold.new.out in
    let s = g.O.Sink.short_count c.args.out.now in
    let u = g.O.Sink.short_count c.hold.new.out in
    let rose = Rose (g.S.Source.fault_count c.args.source.now) (g.S.Source.fault_count c.hold.new.source) in
    let o = watched f h s u rose before now in
    let begins = subst (λ (b : Begun). IfSome base (λ described. Starts words described (start_meaning b))) c.in-Ok-Holds.field-0-is c.in-Ok-Holds.ensures.told in
    legal_clause words base c.node_simulates.ensures c.life_begins_so.ensures files source status o (g.met.A.Archive.bytes c.args.archive.now)
    (run_begun words base bytes source status o (Holds c.in-Ok-Holds.tables) begins c.hold.ensures.leaves)

pub returns-in-Ok-Holds-clause-rejects : goal.returns-in-Ok-Holds-clause-rejects
returns-in-Ok-Holds-clause-rejects g c =
    let words = map string_bytes c.args.words.now in
    let base = g.B.BaseDir.files c.args.base.now in
    let status = c.hold.result in
    let before = g.O.Sink.written c.args.out.now in
    let now = g.O.Sink.written c.hold.new.out in
    let f = g.O.Sink.fault_count c.args.out.now in
    let h = g.O.Sink.fault_count c.hold.new.out in
    let s = g.O.Sink.short_count c.args.out.now in
    let u = g.O.Sink.short_count c.hold.new.out in
    let begins = subst (λ (b : Begun). IfSome base (λ described. Starts words described (start_meaning b))) c.in-Ok-Holds.field-0-is c.in-Ok-Holds.ensures.told in
    not_rejecting words base (λ r. RejectionLeaves r status (watched f h s u ⊥ before now)) (Holds c.in-Ok-Holds.tables) (holds_no_rejection c.in-Ok-Holds.tables) begins

pub returns-in-Ok-Holds-clause-unasked : goal.returns-in-Ok-Holds-clause-unasked
returns-in-Ok-Holds-clause-unasked g c =
    let words = map string_bytes c.args.words.now in
    let base = g.B.BaseDir.files c.args.base.now in
    let begins = subst (λ (b : Begun). IfSome base (λ described. Starts words described (start_meaning b))) c.in-Ok-Holds.field-0-is c.in-Ok-Holds.ensures.told in
    not_rejecting words base (λ r. (g.A.Archive.fault_count c.hold.new.archive ≡ g.A.Archive.fault_count c.args.archive.now) × (g.S.Source.fault_count c.hold.new.source ≡ g.S.Source.fault_count c.args.source.now)) (Holds c.in-Ok-Holds.tables) (holds_no_rejection c.in-Ok-Holds.tables) begins

pub returns-in-Ok-Holds-clause-rejected : goal.returns-in-Ok-Holds-clause-rejected
returns-in-Ok-Holds-clause-rejected g c =
    let status = c.hold.result in
    λ is. absurd (not_answered status (held_as status c.hold.ensures.statuses) is)

pub returns-in-Ok-Holds-clause-words : goal.returns-in-Ok-Holds-clause-words
returns-in-Ok-Holds-clause-words g c =
    let status = c.hold.result in
    λ two. absurd (not_answered status (held_as status c.hold.ensures.statuses) (inl two))

pub returns-in-Ok-Holds-clause-other_words : goal.returns-in-Ok-Holds-clause-other_words
returns-in-Ok-Holds-clause-other_words g c =
    λ none. absurd (holds_no_rejection c.in-Ok-Holds.tables BadWords (sym (ap start_meaning c.in-Ok-Holds.field-0-is) ∙ c.in-Ok-Holds.ensures.at_once none))
