mod Rows
mod Helping
mod Journals
mod Members
mod Senders
