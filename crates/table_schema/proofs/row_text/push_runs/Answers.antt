use Rattle.std.proofs.Common.{◌≡◌, ◌∙◌, ◌+◌, ◌-◌, ◌<◌, ◌≤◌, ◌++◌, length, take, drop, get_or, subst, sym, ap, append_assoc, arith}
use Rattle.std.specs.List.{flat_map}
use Rattle.std.proofs.lemmas.List.{length-drop, take_all}
use Rattle.table_schema.specs.RowText.{escaped_byte}
use Rattle.table_schema.proofs.Runs.{last_run, run_and_escape}
use Rattle.table_schema.proofs.row_text.push_runs.Goals as goal
use Rattle.table_schema.proofs.row_text.push_runs.Goals.{then-len-rest+in_ok-push_escaped_byte, else-len-rest}

pub loop-at-preserved : goal.loop-at-preserved
loop-at-preserved c =
    let bytes = c.args.bytes.now in
    let at = c.loop-at.at in
    let len = c.plain_len-len.result in
    let old = c.args.out.now.items in
    let run = take len (drop at bytes) in
    let size = length-drop at bytes in
    let whole_rest : take (length bytes - at) (drop at bytes) ≡ drop at bytes = take_all (length bytes - at) (drop at bytes) (omega (arith, size)) in
    let plain : flat_map escaped_byte run ≡ run = subst (λ rest. flat_map escaped_byte (take len rest) ≡ take len rest) whole_rest c.plain_len-len.ensures.plain in
    let before : c.extend_from_slice.new.self.items ≡ (old ++ flat_map escaped_byte (take at bytes)) ++ run =
    c.in_ok-extend_from_slice.ensures.items ∙ ap (λ rest. c.loop-at.out.items ++ take len rest) whole_rest ∙ ap (λ xs. xs ++ run) c.loop-at.invariant in
    elim c.if-len-rest.branch [
      | then-len-rest+in_ok-push_escaped_byte w ↦
          let within : at + len < length bytes = omega (arith, size, w.if-len-rest.true, c.loop-at-test.true) in
          let next = escaped_byte (get_or (drop at bytes) len 0) in
          ap (λ out. out.items) w.out-is ∙ w.in_ok-push_escaped_byte.ensures
          ∙ ap (λ rest. c.extend_from_slice.new.self.items ++ escaped_byte (get_or rest len 0)) whole_rest
          ∙ ap (λ xs. xs ++ next) (before ∙ append_assoc old (flat_map escaped_byte (take at bytes)) run)
          ∙ append_assoc old (flat_map escaped_byte (take at bytes) ++ run) next
          ∙ ap (λ xs. old ++ xs) (sym (run_and_escape escaped_byte bytes at len 0 plain within))
      | else-len-rest w ↦
          let whole : length bytes ≤ at + len = omega (arith, size, w.if-len-rest.false, c.loop-at-test.true) in
          ap (λ out. out.items) w.out-is ∙ before ∙ append_assoc old (flat_map escaped_byte (take at bytes)) run
          ∙ ap (λ xs. old ++ xs) (sym (last_run escaped_byte bytes at len plain whole))
    ]
