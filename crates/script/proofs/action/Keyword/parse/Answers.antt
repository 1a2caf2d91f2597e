-- Each long keyword is known by its length and its octets.
use Rattle.std.proofs.Common.{rules, ◌≡◌, codes, arith, ap, sym}
use Rattle.std.proofs.lemmas.Slice.Eq.{text_from_reads}
use Rattle.script.specs.Keywords.{keyword_of}
use Rattle.script.proofs.action.Keyword.parse.Goals as goal

pub returns-in-socket : goal.returns-in-socket
returns-in-socket c =
    let same : c.args.word.now ≡ codes "socket" = text_from_reads _ _ (omega arith) (search rules) in
    ap keyword_of (sym same)

pub returns-in-listen : goal.returns-in-listen
returns-in-listen c =
    let same : c.args.word.now ≡ codes "listen" = text_from_reads _ _ (omega arith) (search rules) in
    ap keyword_of (sym same)

pub returns-in-accept : goal.returns-in-accept
returns-in-accept c =
    let same : c.args.word.now ≡ codes "accept" = text_from_reads _ _ (omega arith) (search rules) in
    ap keyword_of (sym same)

pub returns-in-connect : goal.returns-in-connect
returns-in-connect c =
    let same : c.args.word.now ≡ codes "connect" = text_from_reads _ _ (omega arith) (search rules) in
    ap keyword_of (sym same)

pub returns-in-shutdown : goal.returns-in-shutdown
returns-in-shutdown c =
    let same : c.args.word.now ≡ codes "shutdown" = text_from_reads _ _ (omega arith) (search rules) in
    ap keyword_of (sym same)

pub returns-in-deliver : goal.returns-in-deliver
returns-in-deliver c =
    let same : c.args.word.now ≡ codes "deliver" = text_from_reads _ _ (omega arith) (search rules) in
    ap keyword_of (sym same)

pub returns-in-sendto : goal.returns-in-sendto
returns-in-sendto c =
    let same : c.args.word.now ≡ codes "sendto" = text_from_reads _ _ (omega arith) (search rules) in
    ap keyword_of (sym same)

pub returns-in-fillto : goal.returns-in-fillto
returns-in-fillto c =
    let same : c.args.word.now ≡ codes "fillto" = text_from_reads _ _ (omega arith) (search rules) in
    ap keyword_of (sym same)

pub returns-in-recvfrom : goal.returns-in-recvfrom
returns-in-recvfrom c =
    let same : c.args.word.now ≡ codes "recvfrom" = text_from_reads _ _ (omega arith) (search rules) in
    ap keyword_of (sym same)

pub returns-in-countfrom : goal.returns-in-countfrom
returns-in-countfrom c =
    let same : c.args.word.now ≡ codes "countfrom" = text_from_reads _ _ (omega arith) (search rules) in
    ap keyword_of (sym same)

pub returns-in-count : goal.returns-in-count
returns-in-count c =
    let same : c.args.word.now ≡ codes "count" = text_from_reads _ _ (omega arith) (search rules) in
    ap keyword_of (sym same)

pub returns-in-close : goal.returns-in-close
returns-in-close c =
    let same : c.args.word.now ≡ codes "close" = text_from_reads _ _ (omega arith) (search rules) in
    ap keyword_of (sym same)

pub returns-in-state : goal.returns-in-state
returns-in-state c =
    let same : c.args.word.now ≡ codes "state" = text_from_reads _ _ (omega arith) (search rules) in
    ap keyword_of (sym same)

pub returns-in-abort : goal.returns-in-abort
returns-in-abort c =
    let same : c.args.word.now ≡ codes "abort" = text_from_reads _ _ (omega arith) (search rules) in
    ap keyword_of (sym same)

pub returns-in-ready : goal.returns-in-ready
returns-in-ready c =
    let same : c.args.word.now ≡ codes "ready" = text_from_reads _ _ (omega arith) (search rules) in
    ap keyword_of (sym same)

pub returns-in-nodelay : goal.returns-in-nodelay
returns-in-nodelay c =
    let same : c.args.word.now ≡ codes "nodelay" = text_from_reads _ _ (omega arith) (search rules) in
    ap keyword_of (sym same)
