-- The Types of attributes, each with the section that defines it.
use Rattle.std.specs.Prelude.{ℕ}

-- User-Name (RFC 2865, section 5.1)
abbrev pub type_user_name : ℕ
type_user_name = 1

-- User-Password (RFC 2865, section 5.2)
abbrev pub type_user_password : ℕ
type_user_password = 2

-- CHAP-Password (RFC 2865, section 5.3)
abbrev pub type_chap_password : ℕ
type_chap_password = 3

-- Service-Type (RFC 2865, section 5.6)
abbrev pub type_service_type : ℕ
type_service_type = 6

-- Framed-Protocol (RFC 2865, section 5.7)
abbrev pub type_framed_protocol : ℕ
type_framed_protocol = 7

-- Framed-IP-Address (RFC 2865, section 5.8)
abbrev pub type_framed_ip_address : ℕ
type_framed_ip_address = 8

-- Reply-Message (RFC 2865, section 5.18)
abbrev pub type_reply_message : ℕ
type_reply_message = 18

-- State (RFC 2865, section 5.24)
abbrev pub type_state : ℕ
type_state = 24

-- Class (RFC 2865, section 5.25)
abbrev pub type_class : ℕ
type_class = 25

-- Session-Timeout (RFC 2865, section 5.27)
abbrev pub type_session_timeout : ℕ
type_session_timeout = 27

-- Proxy-State (RFC 2865, section 5.33)
abbrev pub type_proxy_state : ℕ
type_proxy_state = 33

-- Acct-Status-Type (RFC 2866, section 5.1)
abbrev pub type_acct_status_type : ℕ
type_acct_status_type = 40

-- CHAP-Challenge (RFC 2865, section 5.40)
abbrev pub type_chap_challenge : ℕ
type_chap_challenge = 60

-- EAP-Message (RFC 3579, section 3.1)
abbrev pub type_eap_message : ℕ
type_eap_message = 79

-- Message-Authenticator (RFC 3579, section 3.2)
abbrev pub type_message_authenticator : ℕ
type_message_authenticator = 80
