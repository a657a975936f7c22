-- A tuple that is put after another tuple's header changed, in the page as it was before.
use Rattle.std.proofs.Common.{ap, sym, refl, ◌∙◌, ◌-◌, ◌≡◌, ℕ, Bool, List, length, Result, Ok, Err, IsOk, OnErr, subst}
use Rattle.std.proofs.lemmas.Bool.{false≢true}
use Rattle.heap_page.specs.Item.{Item, normal, trimmed, with_item, numbered, tuple_in}
use Rattle.heap_page.specs.Page.{lines_of, items_of}
use Rattle.heap_page.specs.Put.{put_answer, set_head_answer}
use Rattle.heap_page.specs.declared.line.PageError.{PageError}
use Rattle.heap_page.specs.declared.line.PageError.TheVariants.{Full, NoLine, BadPage}
use Rattle.heap_page.proofs.LineLists.{trimmed-trimmed}
use Rattle.heap_page.proofs.HeadKept.{head-keeps_put}
use Rattle.heap_redo.specs.TupleHeads.{Head, head_of, head_bytes, replaced}
use Rattle.heap_redo.specs.After.{BlockRefusal, answered, with_header, change_head, update_old, put}
use Rattle.heap_redo.specs.declared.fault.BlockFault.{BlockFault}
use Rattle.heap_redo.specs.Refused.{outcome}

pub last-in_use : (page : List ℕ) → trimmed (items_of page) ≡ items_of page
unfolding items_of
last-in_use page = trimmed-trimmed (lines_of page)

answered-ok : (line : ℕ) (xs next : List Item) (answer : Result (Unit {0}) PageError) → Ok next ≡ answered line xs answer → (next ≡ xs) × (answer ≡ Ok tt)
answered-ok line xs next (Ok done) e = (cc, refl)
answered-ok line xs next (Err NoLine) e = cc
answered-ok line xs next (Err BadPage) e = cc
answered-ok line xs next (Err Full) e = cc

answered-err : (line : ℕ) (xs ys : List Item) (answer : Result (Unit {0}) PageError) (refusal : BlockRefusal) → Err refusal ≡ answered line xs answer → Err refusal ≡ answered line ys answer
answered-err line xs ys (Ok done) refusal e = cc
answered-err line xs ys (Err NoLine) refusal e = e
answered-err line xs ys (Err BadPage) refusal e = e
answered-err line xs ys (Err Full) refusal e = e

answered-is_ok : (line : ℕ) (xs ys : List Item) (answer : Result (Unit {0}) PageError) → IsOk (answered line xs answer) → IsOk (answered line ys answer)
answered-is_ok line xs ys (Ok done) h = refl
answered-is_ok line xs ys (Err NoLine) h = h
answered-is_ok line xs ys (Err BadPage) h = h
answered-is_ok line xs ys (Err Full) h = h

head-size : (head : Head) → length (head_bytes head) ≡ 23
unfolding head_bytes
head-size head = refl

module _ (items : List Item) (is_hot : Bool) (xmax line bits new_block new_line : ℕ) (next : List Item) (last : trimmed items ≡ items) (done : Ok next ≡ update_old is_hot xmax line bits new_block new_line items) where
  abbrev head : Head
  head = replaced xmax bits is_hot new_block new_line (head_of (tuple_in (numbered items line)))

  marked : (next ≡ with_header items line (head_bytes head)) × (set_head_answer items line (head_bytes head) ≡ Ok tt)
  unfolding update_old change_head
  marked = answered-ok line (with_header items line (head_bytes head)) next (set_head_answer items line (head_bytes head)) done

  same-put : (n : ℕ) (new : List ℕ) → put_answer next n new ≡ put_answer items n new
  same-put n new =
      ap (λ xs. put_answer xs n new) marked.0 ∙ head-keeps_put items line (head_bytes head) last (head-size head) marked.1 n new

  pub put-refused_after : (n : ℕ) (new : List ℕ) (refusal : BlockRefusal) → Err refusal ≡ put n new items → Err refusal ≡ put n new next
  unfolding put
  put-refused_after n new refusal e =
      answered-err n (with_item items (n - 1) (normal new)) (with_item next (n - 1) (normal new)) (put_answer items n new) refusal e
      ∙ ap (answered n (with_item next (n - 1) (normal new))) (sym (same-put n new))

  pub put-ok_after : (n : ℕ) (new : List ℕ) (result : List Item) → Ok result ≡ put n new items → IsOk (put n new next)
  unfolding put
  put-ok_after n new result e =
      let before : IsOk (answered n (with_item next (n - 1) (normal new)) (put_answer items n new)) =
      answered-is_ok n (with_item items (n - 1) (normal new)) (with_item next (n - 1) (normal new)) (put_answer items n new) (subst (λ (r : Result (List Item) BlockRefusal). IsOk r) e refl) in
      subst (λ (a : Result (Unit {0}) PageError). IsOk (answered n (with_item next (n - 1) (normal new)) a)) (sym (same-put n new)) before

-- a change that is not refused leaves nothing to say of a refusal
pub never-err : (P : Type 0) → (items : List Item) (result : Result (Unit {0}) BlockFault) (given : Result (List Item) BlockRefusal) → outcome items result ≡ given → IsOk given → OnErr result P
never-err P items (Ok done) given e h = tt
never-err P items (Err refusal) given e h = absurd (false≢true (subst (λ (r : Result (List Item) BlockRefusal). IsOk r) (sym e) h))
