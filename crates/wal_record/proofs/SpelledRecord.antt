-- Records: what is spelled is read, and what is read is spelled.
use Rattle.std.proofs.Common.{◌≡◌, ℕ, zero, suc, ◌+◌, ◌<◌, ◌≤◌, Bool, true, false, not, cond, nat_le, List, [], ◌∷◌, ◌++◌, length, drop, Option, Some, None, Result, Ok, Err, refl, sym, ap, subst, ◌∙◌, append_assoc, arith, length-append, ◌==◌, ◌⊎◌, inl, inr}
use Rattle.std.specs.List.{flat_map}
use Rattle.std.proofs.lemmas.List.Concat.{flat_map-cons}
use Rattle.std.proofs.lemmas.Option.{same_Some}
use Rattle.wal_record.specs.declared.types.RecordHead.{RecordHead}
use Rattle.wal_record.specs.declared.types.RecordFault.{RecordFault}
use Rattle.wal_record.specs.declared.types.RecordFault.TheVariants.{Layout, Compressed}
use Rattle.wal_record.specs.declared.parts.Part.{Part}
use Rattle.wal_record.specs.declared.parts.Part.TheVariants as part
use Rattle.wal_record.specs.declared.parts.HeadersRead.{HeadersRead}
use Rattle.wal_record.specs.Record.{Record}
use Rattle.wal_record.specs.Parts.{◌>>=◌, any_compressed, part_at, parts_from, parts_of, start, after, seen_after}
use Rattle.wal_record.specs.Decoded.{filled, filled_by, laid_out, blocks_of}
use Rattle.wal_record.specs.declared.parts.ImageHeader.{ImageHeader}
use Rattle.pg_types.specs.Bytes.{AreBytes}
use Rattle.wal_record.specs.Spelling.{part_text, ImageAgrees, MayFollow, AreParts}
use Rattle.wal_record.proofs.Walking.{is_done, done-closed, done-full, done-false}
use Rattle.wal_record.proofs.Finding.{blocks-after, blocks-seen_after}
use Rattle.wal_record.proofs.SpelledParts.{bind_some, Takes, Takes-then, has_compressed, part_at-again, part_at-takes}
use Rattle.std.proofs.lemmas.Bool.{eq-eqb, eqb-true, not-false, or_parts}

-- ---- the parts of a record

-- a part's header begins with a byte
part_text-long : (p : Part) → 1 ≤ length (part_text p)
unfolding part_text
part_text-long (part.Block block) = omega arith
part_text-long (part.Origin origin) = omega arith
part_text-long (part.TopXid xid) = omega arith
part_text-long (part.ShortMain size) = omega arith
part_text-long (part.LongMain size) = omega arith

texts-long : (parts : List Part) → length parts ≤ length (flat_map part_text parts)
texts-long [] = omega arith
texts-long (p ∷ parts) =
    omega (arith, part_text-long p, texts-long parts, ap length (flat_map-cons part_text p parts), length-append (part_text p) (flat_map part_text parts))

main-after : (seen : HeadersRead) (p : Part) → (seen.closed ≡ false → seen.main ≡ 0) → (after seen p).closed ≡ false → (after seen p).main ≡ 0
main-after seen (part.Block block) h = h
main-after seen (part.Origin origin) h = h
main-after seen (part.TopXid xid) h = h
main-after seen (part.ShortMain size) h = λ e. absurd (cc)
main-after seen (part.LongMain size) h = λ e. absurd (cc)

-- the parts end where main data's header was there, or nothing but payloads is left
ends : (seen : HeadersRead) (payloads : List ℕ) → (seen.closed ≡ false → seen.main ≡ 0) → length payloads ≡ seen.blocks + seen.main → is_done seen payloads ≡ true
ends seen payloads h e = by-closed seen.closed refl
  where
    by-closed : (b : Bool) → seen.closed ≡ b → is_done seen payloads ≡ true
    by-closed true c = done-closed seen payloads c
    by-closed false c = (let m = h c in done-full seen payloads (omega arith))

pub parts-again : (n : ℕ) (seen : HeadersRead) (parts : List Part) (payloads : List ℕ) → length parts ≤ n → AreParts seen parts → (seen.closed ≡ false → seen.main ≡ 0)
    → length payloads ≡ (seen_after seen parts).blocks + (seen_after seen parts).main → parts_from n seen (flat_map part_text parts ++ payloads) ≡ Some (parts, payloads)
unfolding parts_from
parts-again zero seen [] payloads le are last e = refl
parts-again zero seen (p ∷ parts) payloads le are last e = absurd (omega arith)
parts-again (suc n) seen [] payloads le are last e = rw (ends seen payloads last e) refl
parts-again (suc n) seen (p ∷ parts) payloads le are last e =
    let regrouped : flat_map part_text (p ∷ parts) ++ payloads ≡ part_text p ++ (flat_map part_text parts ++ payloads) =
    ap (λ (x : List ℕ). x ++ payloads) (flat_map-cons part_text p parts) ∙ append_assoc (part_text p) (flat_map part_text parts) payloads in
    let below : seen.blocks < length (part_text p ++ (flat_map part_text parts ++ payloads)) =
    omega (arith, part_text-long p, length-append (part_text p) (flat_map part_text parts ++ payloads), length-append (flat_map part_text parts) payloads, blocks-after seen p, blocks-seen_after (after seen p) parts) in
    ap (parts_from (suc n) seen) regrouped
    ∙ rw (
      done-false seen (part_text p ++ (flat_map part_text parts ++ payloads)) are.0 below,
      part_at-again seen p (flat_map part_text parts ++ payloads) are.1,
      parts-again n (after seen p) parts payloads (omega arith) are.2 (main-after seen p last) e,
    ) refl

-- once an image was compressed, one was
compressed-after : (seen : HeadersRead) (p : Part) → (after seen p).compressed ≡ false → (seen.compressed ≡ false) × (has_compressed p ≡ false)
compressed-after seen (part.Block block) h = or_parts seen.compressed (any_compressed block.image) h
compressed-after seen (part.Origin origin) h = (h, refl)
compressed-after seen (part.TopXid xid) h = (h, refl)
compressed-after seen (part.ShortMain size) h = (h, refl)
compressed-after seen (part.LongMain size) h = (h, refl)

compressed-seen_after : (seen : HeadersRead) (parts : List Part) → (seen_after seen parts).compressed ≡ false → seen.compressed ≡ false
compressed-seen_after seen [] h = h
compressed-seen_after seen (p ∷ parts) h = (compressed-after seen p (compressed-seen_after (after seen p) parts h)).0

guard_else : {A : Type 0} (b : Bool) (x y z : A) → cond b x y ≡ z → ((b ≡ true) × (x ≡ z)) ⊎ ((b ≡ false) × (y ≡ z))
guard_else true x y z e = inl (refl, e)
guard_else false x y z e = inr (refl, e)

pub parts-take : (n : ℕ) (seen : HeadersRead) (bytes : List ℕ) (y : List Part × List ℕ) → AreBytes bytes → parts_from n seen bytes ≡ Some y → (seen_after seen y.0).compressed ≡ false
    → Takes bytes (flat_map part_text y.0) y.1 × AreParts seen y.0
unfolding parts_from
parts-take zero seen bytes y all e plain =
    let made : List Part × List ℕ = ([], bytes) in
    let P : List Part × List ℕ → Type 0 = λ z. Takes bytes (flat_map part_text z.0) z.1 × AreParts seen z.0 in
    subst P (same_Some made y e) (record { parts = refl; rest_are = all }, tt)
parts-take (suc n) seen bytes y all e plain =
    let P : List Part × List ℕ → Type 0 = λ z. Takes bytes (flat_map part_text z.0) z.1 × AreParts seen z.0 in
    elim (guard_else (is_done seen bytes) (Some ([], bytes)) (part_at seen bytes >>= λ first. parts_from n (after seen first.0) first.1 >>= λ others. Some (first.0 ∷ others.0, others.1)) (Some y) e) [
      | inl w ↦
          let made : List Part × List ℕ = ([], bytes) in
          subst P (same_Some made y w.1) (record { parts = refl; rest_are = all }, tt)
      | inr w ↦
          let a = bind_some (part_at seen bytes) (λ first. parts_from n (after seen first.0) first.1 >>= λ others. Some (first.0 ∷ others.0, others.1)) y w.1 in
          let b = bind_some (parts_from n (after seen a.0.0) a.0.1) (λ others. Some (a.0.0 ∷ others.0, others.1)) y a.2 in
          let made : List Part × List ℕ = (a.0.0 ∷ b.0.0, b.0.1) in
          let same : made ≡ y = same_Some made y b.2 in
          let Q : List Part × List ℕ → Type 0 = λ z. (seen_after seen z.0).compressed ≡ false in
          let plain_all : (seen_after (after seen a.0.0) b.0.0).compressed ≡ false = subst Q (sym same) plain in
          let plain_first = compressed-after seen a.0.0 (compressed-seen_after (after seen a.0.0) b.0.0 plain_all) in
          let t0 = part_at-takes seen bytes a.0 all a.1 plain_first.1 in
          let t1 = parts-take n (after seen a.0.0) a.0.1 b.0 t0.0.rest_are b.1 plain_all in
          let both = Takes-then bytes (part_text a.0.0) a.0.1 (flat_map part_text b.0.0) b.0.1 t0.0 t1.0 in
          let open_ : seen.closed ≡ false = (or_parts seen.closed (nat_le (length bytes) seen.blocks) w.0).0 in
          subst P same (rw flat_map-cons both, (open_, t0.1, t1.1))
    ]

-- ---- the text behind a header

plain-after : (seen : HeadersRead) (p : Part) → MayFollow seen p → seen.compressed ≡ false → (after seen p).compressed ≡ false
plain-after seen (part.Block block) is h = rw h (plain-image block.image is.image)
  where
    plain-image : (image : Option ImageHeader) → ImageAgrees block.flags image → any_compressed image ≡ false
    plain-image None agrees = refl
    plain-image (Some image) agrees = agrees.1.plain
plain-after seen (part.Origin origin) is h = h
plain-after seen (part.TopXid xid) is h = h
plain-after seen (part.ShortMain size) is h = h
plain-after seen (part.LongMain size) is h = h

plain-seen_after : (seen : HeadersRead) (parts : List Part) → AreParts seen parts → seen.compressed ≡ false → (seen_after seen parts).compressed ≡ false
plain-seen_after seen [] are h = h
plain-seen_after seen (p ∷ parts) are h = plain-seen_after (after seen p) parts are.2 (plain-after seen p are.1 h)

pub laid_out-again : (head : RecordHead) (parts : List Part) (payloads : List ℕ) → AreParts start parts → length payloads ≡ (seen_after start parts).blocks + (seen_after start parts).main
    → laid_out head (flat_map part_text parts ++ payloads) ≡ Ok (record { head = head; blocks = blocks_of parts payloads; main = drop (seen_after start parts).blocks payloads })
unfolding laid_out
laid_out-again head parts payloads are e =
    let read = parts-again (length (flat_map part_text parts ++ payloads)) start parts payloads (omega (arith, texts-long parts, length-append (flat_map part_text parts) payloads)) are (λ _. refl) e in
    rw (read, eq-eqb (length payloads) ((seen_after start parts).blocks + (seen_after start parts).main) e, plain-seen_after start parts are refl) refl

-- a text that is a record's is the headers of parts and their payloads
pub record Laid (head : RecordHead) (text : List ℕ) (r : Record) : Type 0 where
  pub parts : List Part
  pub payloads : List ℕ
  pub taken : Takes text (flat_map part_text parts) payloads
  pub are : AreParts start parts
  pub fits : length payloads ≡ (seen_after start parts).blocks + (seen_after start parts).main
  pub is : r ≡ record { head = head; blocks = blocks_of parts payloads; main = drop (seen_after start parts).blocks payloads }

pub guard_ok : {A : Type 0} (b : Bool) (fault : RecordFault) (x : Result A RecordFault) (y : A) → cond b (Err fault) x ≡ Ok y → (b ≡ false) × (x ≡ Ok y)
guard_ok true fault x y e = absurd (cc)
guard_ok false fault x y e = (refl, e)

pub same_Ok : (x y : Record) → ◌≡◌ {A = Result Record RecordFault} (Ok x) (Ok y) → x ≡ y
same_Ok x y e = cc

filled-ok : (head : RecordHead) (parts : List Part) (payloads : List ℕ) (r : Record) → filled head parts payloads ≡ Ok r
    → (length payloads ≡ (seen_after start parts).blocks + (seen_after start parts).main) × ((seen_after start parts).compressed ≡ false)
    × (r ≡ record { head = head; blocks = blocks_of parts payloads; main = drop (seen_after start parts).blocks payloads })
filled-ok head parts payloads r e =
    let seen = seen_after start parts in
    let made : Record = record { head = head; blocks = blocks_of parts payloads; main = drop seen.blocks payloads } in
    let a = guard_ok (not (length payloads == seen.blocks + seen.main)) Layout (cond seen.compressed (Err Compressed) (Ok made)) r e in
    let b = guard_ok seen.compressed Compressed (Ok made) r a.1 in
    (eqb-true (length payloads) (seen.blocks + seen.main) (not-false _ a.0), b.0, sym (same_Ok made r b.1))

laid-by : (head : RecordHead) (text : List ℕ) (r : Record) (read : Option (List Part × List ℕ)) → AreBytes text → parts_of text ≡ read → filled_by head read ≡ Ok r → Laid head text r
laid-by head text r None all e h = absurd (cc)
laid-by head text r (Some x) all e h =
    let f = filled-ok head x.0 x.1 r h in
    let t = parts-take (length text) start text x all e f.1 in
    record { parts = x.0; payloads = x.1; taken = t.0; are = t.1; fits = f.0; is = f.2 }

pub laid_out-takes : (head : RecordHead) (text : List ℕ) (r : Record) → AreBytes text → laid_out head text ≡ Ok r → Laid head text r
unfolding laid_out
laid_out-takes head text r all h = laid-by head text r (parts_of text) all refl h
