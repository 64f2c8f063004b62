-- Lines of a segment that were acted on and what they put, so far; and where that ends.
use Rattle.std.proofs.Common.{◌≡◌, ℕ, suc, ◌+◌, ◌≤◌, ◌<◌, true, false, List, [], ◌∷◌, ◌++◌, length, Some, None}
use Rattle.std.proofs.Common.{Ok, Err, append_assoc, refl, sym, ap, ◌∙◌, subst, arith}
use Rattle.std.proofs.lemmas.List.{append-nil}
use Rattle.session_disk.specs.declared.family.Family.TheVariants.{Tabs}
use Rattle.command_queue.specs.declared.board.AckBoard.{AckBoard}
use Rattle.command_queue.specs.declared.queue.CommandQueue.{CommandQueue}
use Rattle.command_queue.specs.Passes.{sent}
use Rattle.command_queue.specs.Seats.{IsIssuerSeatOf}
use Rattle.browser_model.specs.Browsers.{Browser}
use Rattle.run_words.specs.declared.why.Why.{Why}
use Rattle.script_lines.specs.Lines.{lines}
use Rattle.writer_core.specs.Ends.{has_end}
use Rattle.writer_core.specs.declared.item.Item.TheVariants as item
use Rattle.script_run.specs.declared.asking.Asked.{Asked}
use Rattle.script_run.specs.declared.asking.Asked.TheVariants as asks
use Rattle.script_run.specs.declared.asking.Work.{Work}
use Rattle.script_run.specs.declared.segments.Ended.{Ended}
use Rattle.script_run.specs.declared.segments.Ended.TheVariants as ended
use Rattle.script_run.specs.Acting.{asked_steps, syncs, tabs_asked, work_steps}
use Rattle.script_run.specs.Closed.{LeadsClosed}
use Rattle.script_run.specs.Families.{RunItem}
use Rattle.script_run.specs.Script.{line_acted}
use Rattle.script_run.specs.Segments.{Behind, EndsSegment, Over, Segment, ends, is_sync, led, left_by}
use Rattle.script_run.specs.Segments.{segment_from, synced_steps}
use Rattle.script_run.specs.Steps.{Step, Handle, issued_to, items_of}
use Rattle.script_run.proofs.AskedLaws.{work-tabs}
use Rattle.script_run.proofs.PictureLaws.{closed-then}
use Rattle.script_run.proofs.SegmentLaws.{first-line, nothing-left}
use Rattle.script_run.proofs.StepLaws.{issued-append, items-append}
use Rattle.threaded_run.specs.Issuers.{IsIssuer, Puts}
use Rattle.threaded_run.specs.Issuing.{HasPut, MayLeave, closing_items, work_items}
use Rattle.threaded_run.specs.declared.issuing.Issued.{Issued}
use Rattle.threaded_run.specs.declared.issuing.Issued.TheVariants as issued
use Rattle.threaded_run.specs.declared.putting.Issuer.{Issuer}
use Rattle.threaded_run.proofs.ItemLaws.{items-work, no-end-then, no-end-work}

module _ (queue : CommandQueue RunItem) (board : AckBoard) (first : Browser) (text : List ℕ) (number : ℕ)
    (old : Issuer) where
  abbrev whole : Segment
  whole = segment_from (suc number) first (lines text)

  -- all was put but what comes to this
  pub record PutUpTo (later : Segment) (b : Browser) (now : Issuer) : Type 0 where
    pub done : List Step
    pub parts : done ++ later.steps ≡ whole.steps
    pub left_is : later.left ≡ whole.left
    pub last_is : later.last ≡ whole.last
    pub closed : LeadsClosed first (issued_to Tabs done) b
    pub none_ends : has_end (items_of done) ≡ false
    pub sends : sent now.pass ≡ sent old.pass ++ items_of done

  -- so many lines were put, and this text is left
  pub record LinesPut (rest : List ℕ) (count : ℕ) (b : Browser) (now : Issuer) : Type 0 where
    pub room : count + length rest ≤ number + length text
    pub shorter : length rest ≤ length text
    pub issuer : IsIssuer queue board now
    pub so_far : PutUpTo (segment_from (suc count) b (lines rest)) b now

  pub no-line-put : IsIssuer queue board old → LinesPut text number first old
  no-line-put is = record {
    room = omega arith;
    shorter = omega arith;
    issuer = is;
    so_far = record {
      done = [];
      parts = refl;
      left_is = refl;
      last_is = refl;
      closed = λ s h. h;
      none_ends = refl;
      sends = sym (append-nil (sent old.pass));
    };
  }

  further-put : (was next : Segment) (steps : List Step) → was ≡ led steps next → (b to : Browser) (now new : Issuer)
      → PutUpTo was b now → has_end (items_of steps) ≡ false → sent new.pass ≡ sent now.pass ++ items_of steps
      → LeadsClosed b (issued_to Tabs steps) to → PutUpTo next to new
  further-put was next steps is b to now new h none sends closed = record {
    done = h.done ++ steps;
    parts = append_assoc h.done steps next.steps
        ∙ ap (λ left. h.done ++ left) (sym (ap (λ (s : Segment). s.steps) is)) ∙ h.parts;
    left_is = sym (ap (λ (s : Segment). s.left) is) ∙ h.left_is;
    last_is = sym (ap (λ (s : Segment). s.last) is) ∙ h.last_is;
    closed = subst (λ issued. LeadsClosed first issued to) (sym (issued-append Tabs h.done steps))
        (closed-then first b to (issued_to Tabs h.done) (issued_to Tabs steps) h.closed closed);
    none_ends = subst (λ items. has_end items ≡ false) (sym (items-append h.done steps))
        (no-end-then (items_of h.done) (items_of steps) h.none_ends none);
    sends = sends ∙ ap (λ items. items ++ items_of steps) h.sends
        ∙ append_assoc (sent old.pass) (items_of h.done) (items_of steps)
        ∙ ap (λ items. sent old.pass ++ items) (sym (items-append h.done steps));
  }

  -- some steps are put, whatever is left of them
  pub some-put : (later : Segment) (b : Browser) (now : Issuer) (how : Issued) → PutUpTo later b now
      → MayLeave how (items_of later.steps)
      → HasPut (items_of (segment_from (suc number) first (lines text)).steps) [] old now how
  some-put later b now how h leaves = record {
    items = items_of h.done;
    left = items_of later.steps;
    parts = sym (items-append h.done later.steps) ∙ ap items_of h.parts;
    leaves = leaves;
    none_ends = h.none_ends;
    sends = h.sends ∙ ap (λ items. sent old.pass ++ items) (sym (append-nil (items_of h.done)));
  }

  -- the segment is over
  pub record LinesOver (how : Ended) (last : Browser) (now : Issuer) : Type 0 where
    pub puts : HasPut (items_of (segment_from (suc number) first (lines text)).steps) [] old now (issued.Over how)
    pub ends : EndsSegment (segment_from (suc number) first (lines text)) first how last

  module _ (rest : List ℕ) (count : ℕ) (b : Browser) (now : Issuer) (h : LinesPut rest count b now) where
    abbrev left_here : Segment
    left_here = segment_from (suc count) b (lines rest)

    ends-as : (how : Ended) (to : Browser) → left_here ≡ ends (left_by how) to → LeadsClosed b [] to
        → (new : Issuer) → new.pass ≡ now.pass → LinesOver how to new
    ends-as how to is closed new same =
        let last = ends (left_by how) to in
        let so_far = further-put left_here last [] is b to now new h.so_far refl
        (ap sent same ∙ sym (append-nil (sent now.pass))) closed in
        record {
          puts = some-put last to new (issued.Over how) so_far refl;
          ends = record {
            left = so_far.left_is;
            last_is = so_far.last_is;
            closed = subst (λ steps. LeadsClosed first (issued_to Tabs steps) to)
                (sym (append-nil so_far.done) ∙ so_far.parts) so_far.closed;
          };
        }

    pub text-over : length rest ≤ 0 → LinesOver (ended.Script None) b now
    text-over short =
        ends-as (ended.Script None) b
        (ap (λ left. segment_from (suc count) b (lines left)) (nothing-left rest short)) (λ s kept. kept) now refl

    -- memory runs out, or the writer has ended
    pub left-here : (how : Issued) (new : Issuer) → new.pass ≡ now.pass → MayLeave how (items_of left_here.steps)
        → HasPut (items_of (segment_from (suc number) first (lines text)).steps) [] old new how
    left-here how new same leaves =
        some-put left_here b new how (record {
          done = h.so_far.done;
          parts = h.so_far.parts;
          left_is = h.so_far.left_is;
          last_is = h.so_far.last_is;
          closed = h.so_far.closed;
          none_ends = h.so_far.none_ends;
          sends = ap sent same ∙ h.so_far.sends;
        }) leaves

    -- the board is looked at, which puts nothing
    module _ (new : Issuer) (same : new.pass ≡ now.pass) (line others : List ℕ)
        (next : lines rest ≡ line ∷ lines others) where
      pub line-refused : (why : Why) → line_acted line b ≡ Err why → (to : Browser) → to ≡ b
          → LinesOver (ended.Script (Some (count + 1, why))) to new
      line-refused why is to stays =
          let counted : suc count ≡ count + 1 = omega arith in
          ends-as (ended.Script (Some (count + 1, why))) to
          (first-line (suc count) b rest line others next (Err why) (is_sync line) is refl
          ∙ ap (λ k. ends (Over (Some (k, why))) b) counted ∙ ap (ends (Over (Some (count + 1, why)))) (sym stays))
          (subst (λ x. LeadsClosed b [] x) (sym stays) (λ s kept. kept)) new same

      module _ (asked : Asked) (to : Browser) (acts : line_acted line b ≡ Ok (asked_steps asked, to))
          (sync : syncs asked ≡ is_sync line) (closed : LeadsClosed b (tabs_asked asked) to) where
        -- it asks for a sync
        pub line-synced : asked ≡ asks.Sync → (how : Ended) → left_by how ≡ Behind (suc (count + 1)) (lines others)
            → LinesOver how to new
        line-synced is how left =
            let counted : suc count ≡ count + 1 = omega arith in
            ends-as how to
            (first-line (suc count) b rest line others next (Ok (asked_steps asked, to)) true acts
            (sym sync ∙ ap syncs is)
            ∙ ap (λ k. ends (Behind (suc k) (lines others)) to) counted
            ∙ ap (λ x. ends x to) (sym left)) (subst (λ a. LeadsClosed b (tabs_asked a) to) is closed) new same

        -- it asks for other work, which is put
        pub line-put : (work : Work) → asked ≡ asks.Work work → (later : Issuer)
            → Puts queue (work_items work) new later → IsIssuerSeatOf board new.seat → length others < length rest
            → LinesPut others (count + 1) to later
        line-put work is later puts seat shorter =
            let left_there = segment_from (suc (suc count)) to (lines others) in
            let work_first : left_here ≡ led (work_steps work) left_there =
            first-line (suc count) b rest line others next (Ok (asked_steps asked, to)) false acts
            (sym sync ∙ ap syncs is) ∙ ap (λ a. led (asked_steps a) left_there) is in
            let counted : suc count ≡ count + 1 = omega arith in
            let issued : tabs_asked asked ≡ issued_to Tabs (work_steps work) = ap tabs_asked is ∙ sym (work-tabs work) in
            let items = items-work work in record {
              room = omega (arith, shorter, h.room);
              shorter = omega (arith, shorter, h.shorter);
              issuer = record {
                pass = puts.pass;
                seat = subst (λ seat. IsIssuerSeatOf board seat) (sym puts.seat) seat;
              };
              so_far = subst (λ k. PutUpTo (segment_from (suc k) to (lines others)) to later) counted
                  (further-put left_here left_there (work_steps work) work_first b to now later h.so_far
                  (ap has_end items ∙ no-end-work work)
                  (puts.sends ∙ ap (λ pass. sent pass ++ work_items work) same
                  ∙ ap (λ x. sent now.pass ++ x) (sym items))
                  (subst (λ commands. LeadsClosed b commands to) issued closed));
            }

-- a sync, where the segment is over
no-end-closing : (how : Issued) → has_end (closing_items how) ≡ false
no-end-closing (issued.Over how) = refl
no-end-closing issued.Memory = refl
no-end-closing issued.Stopped = refl

module _ (segment : Segment) (items left : List RunItem) (parts : items ++ left ≡ items_of segment.steps) where
  -- what is left behind these items and what closes the segment
  pub record Closes (how : Issued) : Type 0 where
    pub more : List RunItem
    pub parts_are : (items ++ closing_items how) ++ more ≡ items_of (synced_steps segment)
    pub leaves : MayLeave how more

  synced-items : items_of segment.steps ++ item.Sync ∷ [] ≡ items_of (synced_steps segment)
  synced-items = sym (items-append segment.steps (Handle item.Sync ∷ []))

  left-parts : (items ++ []) ++ (left ++ item.Sync ∷ []) ≡ items_of (synced_steps segment)
  left-parts =
      ap (λ x. x ++ (left ++ item.Sync ∷ [])) (append-nil items)
      ∙ sym (append_assoc items left (item.Sync ∷ [])) ∙ ap (λ x. x ++ item.Sync ∷ []) parts ∙ synced-items

  closes : (how : Issued) → MayLeave how left → Closes how
  closes (issued.Over how) none = record {
    more = [];
    parts_are = append-nil (items ++ item.Sync ∷ [])
        ∙ ap (λ x. x ++ item.Sync ∷ [])
        (sym (append-nil items) ∙ ap (λ x. items ++ x) (sym none) ∙ parts) ∙ synced-items;
    leaves = refl;
  }
  closes issued.Memory leaves = record { more = left ++ item.Sync ∷ []; parts_are = left-parts; leaves = tt }
  closes issued.Stopped leaves = record { more = left ++ item.Sync ∷ []; parts_are = left-parts; leaves = tt }

-- what closes a segment, and the end, are put behind its lines
module _ (queue : CommandQueue RunItem) (segment : Segment) (old mid closed new : Issuer) (how : Issued)
    (closing : Puts queue (closing_items how) mid closed)
    (last : Puts queue (item.End ∷ []) closed new) where
  pub closed-put : HasPut (items_of segment.steps) [] old mid how
      → HasPut (items_of (synced_steps segment)) (item.End ∷ []) old new how
  closed-put h =
      let over = closes segment h.items h.left h.parts how h.leaves in
      let items = h.items ++ closing_items how in record {
        items = items;
        left = over.more;
        parts = over.parts_are;
        leaves = over.leaves;
        none_ends = no-end-then h.items (closing_items how) h.none_ends (no-end-closing how);
        sends = last.sends
            ∙ ap (λ x. x ++ item.End ∷ []) (closing.sends
            ∙ ap (λ x. x ++ closing_items how) (h.sends ∙ ap (λ x. sent old.pass ++ x) (append-nil h.items))
            ∙ append_assoc (sent old.pass) h.items (closing_items how))
            ∙ append_assoc (sent old.pass) items (item.End ∷ []);
      }
