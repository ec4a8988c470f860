-- What a report makes of a session (RFC 2866, section 5.1).
use Rattle.rad_pool.specs.Sessions.{session_ended, session_renewed, session_reset}
use Rattle.rad_pool.specs.declared.report.Report.{Report}
use Rattle.rad_pool.specs.declared.report.Report.TheVariants.{Renewal, Reset, Stop}
use Rattle.rad_pool.specs.declared.session.Session.{Session}

abbrev pub after_report : Report → Session → Session
after_report (Renewal now) session = session_renewed now session
after_report Stop session = session_ended session
after_report (Reset source) session = session_reset source session
