use Rattle.qc_session.proofs.scripts.run.Goals as goal

pub returns : goal.returns
returns g c =
    let e = c.run_with_keys.ensures in
    record {
      known = e.known;
      transcript = e.transcript;
      silent = e.silent;
      ended = e.ended;
      held = e.held;
      no_end = e.no_end;
      skipped = e.skipped;
      usage = e.usage;
      unopened = e.unopened;
      said_usage = e.said_usage;
      read_fault = e.read_fault;
      unread = e.unread;
      write_fault = e.write_fault;
      broken_off = e.broken_off;
      said_write = e.said_write;
      nothing = e.nothing;
      unbegun = e.unbegun;
      said_memory = e.said_memory;
      refused = e.refused;
      refusal = e.refusal;
      complete = e.complete;
      found = e.found;
      complete_steady = e.complete_steady;
      pack_known = e.pack_known;
      pack_all = e.pack_all;
      pack_nothing = e.pack_nothing;
      pack_unread = e.pack_unread;
      pack_front = e.pack_front;
      pack_refused = e.pack_refused;
      pack_refusal = e.pack_refusal;
      pack_complete = e.pack_complete;
      pack_found = e.pack_found;
      pack_complete_steady = e.pack_complete_steady;
      gen_known = e.gen_known;
      gen_files = e.gen_files;
      gen_end = e.gen_end;
      gen_all = e.gen_all;
      gen_front = e.gen_front;
    }
