-- The scan of t by a node, and the session of one: their text.
use Rattle.std.proofs.Common.{◌≡◌, Bool, List, [], ◌∷◌, ◌++◌, Ok, Err, arith, refl, sym, ap, subst, ◌∙◌}
use Rattle.std.proofs.lemmas.Str.{is_utf8-from_IsUtf8}
use Rattle.std.specs.Prelude.{IsUtf8, codes, if◌then◌else◌}
use Rattle.std.specs.Fmt.{digits}
use Rattle.pg_types.specs.Names.{lsn_text}
use Rattle.wal_reader.specs.declared.types.EndWhy.TheVariants.{Zero}
use Rattle.schema_file.specs.SchemaFile.{Read}
use Rattle.session_text.specs.Lines.{lines_by, lines_read, pieces}
use Rattle.session_text.specs.Requests.{Request, Opens, Reads, Replays, Unreadable, has_return, opening, request_of, requests_of, requests_read}
use Rattle.table_schema.specs.RowText.{bytes_text, cell_text}
use Rattle.standby_model.specs.Log.{Ended}
use Rattle.session_model.specs.Answers.{Answer, Applies, Replayed, Replied, Talks}
use Rattle.session_model.specs.Events.{AtEnd, Opened, Reply, ReplayOne}
use Rattle.session_model.specs.Scans.{IsScan, ReadsSome, ReplaysAll}
use Rattle.session_model.specs.Sessions.{IsSession, talk_text}
use Rattle.session_model.specs.Texts.{answer_text, end_line, replays_text, reply_text, row_line}
use Rattle.run_model.specs.Origin.{start}
use Rattle.run_model.specs.Starts.{Holds, Scans, Starts}
use Rattle.worked_archive.specs.WorkedArchive.{IsWorkedArchive, files, log}
use Rattle.worked_premise.specs.Premise.{node_step, scan_text, scan_words, session_text, session_words, source}
use Rattle.worked_premise.specs.WorkedSchema.{base, tables}
use Rattle.worked_premise.proofs.Node.{are_redone, node, opens, page_reply, read, reads, scanning}
use Rattle.worked_premise.proofs.Redone.{applies, replays}
use Rattle.worked_premise.proofs.Schema.{schema_is_read}
use Rattle.worked_premise.proofs.Told.{is_log}

-- the words begin a scan, or a session, over the tables that the text describes
pub scan_starts : Starts scan_words base (Scans tables (codes "t"))
scan_starts = (Read (Ok tables), (Ok tables, schema_is_read, refl), refl)

pub session_starts : Starts session_words base (Holds tables)
session_starts = (Read (Ok tables), (Ok tables, schema_is_read, refl), refl)

-- the log ends behind its five records, at zeros
abbrev last : Reply
last = AtEnd 0x2000168 Zero

replays_five : IsWorkedArchive → Applies node_step 5 (start tables) node
replays_five worked = applies tables files log (is_log worked).stands are_redone

ends : IsWorkedArchive → node_step ReplayOne node last node
ends worked = replays tables files log (Err (Ended Zero)) last node (is_log worked).stops (refl, refl)

replays_all : IsWorkedArchive → ReplaysAll node_step (start tables) last node
replays_all worked =
    record { count = 5; mid = node; applies = replays_five worked; replays = ends worked; stops = refl }

reads_none : ReadsSome node_step 1 scanning [] scanning
unfolding ReadsSome
reads_none = refl

scan_says : scan_text ≡ reply_text (Opened 1 0x2000168) ++ reply_text page_reply
unfolding reply_text row_line cell_text bytes_text end_line lsn_text digits
scan_says = refl

pub is_scan : IsWorkedArchive → IsScan node_step (start tables) (codes "t") scan_text 0
is_scan worked =
    record {
      last = last;
      ended = node;
      replays = replays_all worked;
      scans =
          record {
            reply = Opened 1 0x2000168;
            opened = scanning;
            opens = opens;
            reads = (
              reply_text page_reply,
              record {
                pages = [];
                mid = scanning;
                reads = reads_none;
                last = page_reply;
                now = read;
                ends = reads;
                no_more = refl;
                says = refl;
                is_status = refl;
              },
              scan_says,
            );
          };
    }

-- the table's name is a text
is_text : IsUtf8 (codes "t")
unfolding lib.Utf8.encode
is_text = (codes "t", (refl, refl))

opens_t : opening (codes "t") ≡ Opens (codes "t")
opens_t =
    ap (λ (is : Bool). if is then Opens (codes "t") else Unreadable) (is_utf8-from_IsUtf8 (codes "t") is_text)

asks_opening : requests_read source ≡ Replays 9 ∷ opening (codes "t") ∷ Reads 1 ∷ []
unfolding requests_of request_of has_return lines_read lines_by pieces
asks_opening = refl

asks : requests_read source ≡ Replays 9 ∷ Opens (codes "t") ∷ Reads 1 ∷ []
asks = asks_opening ∙ ap (λ (r : Request). Replays 9 ∷ r ∷ Reads 1 ∷ []) opens_t

abbrev answers : List Answer
answers = Replayed 5 last ∷ Replied (Opened 1 0x2000168) ∷ Replied page_reply ∷ []

talks : IsWorkedArchive → Talks node_step (Replays 9 ∷ Opens (codes "t") ∷ Reads 1 ∷ []) (start tables) answers read
unfolding Talks
talks worked = (
  node,
  record {
    before = 5;
    mid = node;
    last = last;
    applies = replays_five worked;
    replays = ends worked;
    stops = omega arith;
    says = refl;
  },
  (
    scanning,
    (Opened 1 0x2000168, opens, refl),
    (read, (page_reply, reads, refl), refl),
  ),
)

session_says : session_text ≡ talk_text answers
unfolding answer_text replays_text reply_text row_line cell_text bytes_text end_line lsn_text digits
session_says = refl

pub is_session : IsWorkedArchive → IsSession node_step (start tables) source session_text 0
is_session worked =
    record {
      now = read;
      answers = answers;
      talks = subst (λ (requests : List Request). Talks node_step requests (start tables) answers read) (sym asks) (talks worked);
      says = session_says;
      ends = refl;
    }
